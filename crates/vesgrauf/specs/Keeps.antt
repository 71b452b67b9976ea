-- What steps and calls of a connection keep, in one word for each of three kinds.
use Rattle.std.specs.Prelude.{◌≡◌, ℕ, List, [], Option, None, Some, is_some, true, false}
use Rattle.vesgrauf.specs.declared.config.Config.{Config}
use Rattle.vesgrauf.specs.declared.config.OnMalformed.TheVariants as chosen
use Rattle.vesgrauf.specs.declared.connection.Connection.{Connection}
use Rattle.vesgrauf.specs.declared.connection.Ended.{Ended}
use Rattle.vesgrauf.specs.declared.connection.ids.Ids.{Ids}
use Rattle.vesgrauf.specs.declared.entry.Entry.{Entry}
use Rattle.vesgrauf.specs.declared.event.Event.{Event}
use Rattle.vesgrauf.specs.Halves.{Lasts}
use Rattle.vesgrauf.specs.Instructions.{Table, table_of}
use Rattle.vesgrauf.specs.Own.{Untouched, UntouchedOrNew}
use Rattle.vesgrauf.specs.Theirs.{Left}
use Rattle.vesgrauf.specs.Told.{Goes, Sound}
use Rattle.vesgrauf.specs.Works.{Worked, book_at}

-- No byte is said on a stream and none of the peer's is read or lost; the configuration stays, and the end of the
-- connection; what the program is told of a stream, and what it knows of it, go on from what they were; and no half ends of
-- which it is not told, unless the connection is over, or it is one of this stream. What is said to the peer's encoder is
-- said by deeds, unless the connection is over.
pub data KeepsAll : (but : Option ℕ) (said : List Event)
    → (es : List (ℕ × Entry)) (ids : Ids) (t : Table) (q : List Event) (a : Config) (x : Option Ended)
    → (fs : List (ℕ × Entry)) (jds : Ids) (u : Table) (r : List Event) (b : Config) (y : Option Ended) → Type 0 where
  Kept : {but : Option ℕ} {said : List Event}
      {es : List (ℕ × Entry)} {ids : Ids} {t : Table} {q : List Event} {a : Config} {x : Option Ended}
      {fs : List (ℕ × Entry)} {jds : Ids} {u : Table} {r : List Event} {b : Config} {y : Option Ended}
      → (own : Untouched es fs) → (left : Left es fs) → (goes : Goes said es ids q fs jds r) → (config : b ≡ a)
      → (ends : is_some x ≡ true → is_some y ≡ true)
      → (lasts : is_some y ≡ false → Sound es ids → Lasts but said es q fs r)
      → (works : is_some y ≡ false → Sound es ids → Worked (book_at es ids t) (book_at fs jds u))
      → KeepsAll but said es ids t q a x fs jds u r b y

abbrev pub Keeps : List Event → Connection → Connection → Type 0
Keeps said c d = KeepsAll None said c.streams.entries c.ids (table_of c) c.events.items c.config c.ended
    d.streams.entries d.ids (table_of d) d.events.items d.config d.ended

-- the same of a step about this stream, of whose halves nothing is said
abbrev pub KeepsBut : ℕ → Connection → Connection → Type 0
KeepsBut id c d = KeepsAll (Some id) [] c.streams.entries c.ids (table_of c) c.events.items c.config c.ended
    d.streams.entries d.ids (table_of d) d.events.items d.config d.ended

-- The same of a step in which bytes of the peer may be read, and in which a malformed message may be answered, if the
-- configuration says so.
pub data KeepsOwnAll : (but : Option ℕ) (said : List Event)
    → (es : List (ℕ × Entry)) (ids : Ids) (q : List Event) (a : Config) (x : Option Ended)
    → (fs : List (ℕ × Entry)) (jds : Ids) (r : List Event) (b : Config) (y : Option Ended) → Type 0 where
  KeptOwn : {but : Option ℕ} {said : List Event}
      {es : List (ℕ × Entry)} {ids : Ids} {q : List Event} {a : Config} {x : Option Ended}
      {fs : List (ℕ × Entry)} {jds : Ids} {r : List Event} {b : Config} {y : Option Ended}
      → (own : a.on_malformed ≡ chosen.Reset → UntouchedOrNew ids es fs) → (goes : Goes said es ids q fs jds r)
      → (config : b ≡ a)
      → (ends : is_some x ≡ true → is_some y ≡ true)
      → (lasts : a.on_malformed ≡ chosen.Reset → is_some y ≡ false → Sound es ids → Lasts but said es q fs r)
      → KeepsOwnAll but said es ids q a x fs jds r b y

abbrev pub KeepsOwn : List Event → Connection → Connection → Type 0
KeepsOwn said c d = KeepsOwnAll None said c.streams.entries c.ids c.events.items c.config c.ended
    d.streams.entries d.ids d.events.items d.config d.ended

abbrev pub KeepsOwnBut : ℕ → Connection → Connection → Type 0
KeepsOwnBut id c d = KeepsOwnAll (Some id) [] c.streams.entries c.ids c.events.items c.config c.ended
    d.streams.entries d.ids d.events.items d.config d.ended
