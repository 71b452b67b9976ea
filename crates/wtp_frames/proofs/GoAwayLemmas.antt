-- Which GOAWAY frames are given, and which are refused.
use Rattle.std.proofs.Common.{◌≡◌, ℕ, ◌%◌, ◌<◌, ◌≤◌, Bool, List, [], ◌∷◌, ◌++◌, Option, Some, None, refl, sym, ap, ◌∙◌, arith, append_assoc, inl, inr}
use Rattle.std.proofs.lemmas.List.{append-nil}
use Rattle.wtp_core.specs.Varint.{Encodes}
use Rattle.wtp_core.specs.declared.error.scope.ErrorScope.TheVariants.{Connection}
use Rattle.wtp_frames.specs.declared.endpoint.Endpoint.{Endpoint}
use Rattle.wtp_frames.specs.declared.endpoint.Side.{Side}
use Rattle.wtp_frames.specs.declared.endpoint.Side.TheVariants.{Client, Server}
use Rattle.wtp_frames.specs.declared.fault.Fault.TheVariants as fault
use Rattle.wtp_frames.specs.declared.frame_type.FrameType.TheVariants as kind
use Rattle.wtp_frames.specs.declared.reader.Place.TheVariants.{AfterSettings}
use Rattle.wtp_frames.specs.declared.reader.Reader.{Reader}
use Rattle.wtp_frames.specs.Item.{Item, Whole}
use Rattle.wtp_frames.specs.Run.{run, preceded}
use Rattle.wtp_frames.specs.Start.{between, control_reader}
use Rattle.wtp_frames.specs.Codes.{IsSettled, AfterIds}
use Rattle.wtp_frames.specs.Grammar.{Frame, written, IsFrame, Ids, IdsEnd, IdsGoAway, IdsMaxPushId, IdsUnknown, ids_bytes, ids_items, NotAbove, Names, ValidIds, last_goaway, last_push}
use Rattle.wtp_frames.specs.GoAway.{IsPrevious}
use Rattle.wtp_frames.proofs.GrammarLemmas.{Settles, settings_run}
use Rattle.wtp_frames.proofs.RowLemmas.{id_row, goaway_rises}

-- ---- one more GOAWAY

abbrev and_goaway : Ids → ℕ → Frame → Ids
and_goaway IdsEnd n f = IdsGoAway n f IdsEnd
and_goaway (IdsGoAway m g ids) n f = IdsGoAway m g (and_goaway ids n f)
and_goaway (IdsMaxPushId m g ids) n f = IdsMaxPushId m g (and_goaway ids n f)
and_goaway (IdsUnknown id g ids) n f = IdsUnknown id g (and_goaway ids n f)

bytes_then : (ids : Ids) (n : ℕ) (f : Frame) → ids_bytes (and_goaway ids n f) ≡ ids_bytes ids ++ written f
bytes_then IdsEnd n f = append-nil (written f)
bytes_then (IdsGoAway m g ids) n f = ap (λ (l : List ℕ). written g ++ l) (bytes_then ids n f) ∙ sym (append_assoc (written g) (ids_bytes ids) (written f))
bytes_then (IdsMaxPushId m g ids) n f = ap (λ (l : List ℕ). written g ++ l) (bytes_then ids n f) ∙ sym (append_assoc (written g) (ids_bytes ids) (written f))
bytes_then (IdsUnknown id g ids) n f = ap (λ (l : List ℕ). written g ++ l) (bytes_then ids n f) ∙ sym (append_assoc (written g) (ids_bytes ids) (written f))

items_then : (ids : Ids) (n : ℕ) (f : Frame) → ids_items (and_goaway ids n f) ≡ ids_items ids ++ (Whole kind.GoAway f.payload ∷ [])
items_then IdsEnd n f = refl
items_then (IdsGoAway m g ids) n f = ap (λ (l : List Item). Whole kind.GoAway g.payload ∷ l) (items_then ids n f)
items_then (IdsMaxPushId m g ids) n f = ap (λ (l : List Item). Whole kind.MaxPushId g.payload ∷ l) (items_then ids n f)
items_then (IdsUnknown id g ids) n f = items_then ids n f

valid_then : (e : Endpoint) (goaway push : Option ℕ) (ids : Ids) (n : ℕ) (f : Frame) → ValidIds e.side e.webtransport goaway push ids → IsFrame 0x07 f → Encodes n f.payload → Names e.side n → NotAbove goaway n → ((m : ℕ) → IsPrevious m ids → n ≤ m) → ValidIds e.side e.webtransport goaway push (and_goaway ids n f)
valid_then e goaway push IdsEnd n f v is enc names above low = (is, enc, names, above, tt)
valid_then e goaway push (IdsGoAway m g ids) n f (gis, genc, gnames, gabove, v) is enc names above low = (gis, genc, gnames, gabove, valid_then e (Some m) push ids n f v is enc names (low m (inl refl)) (λ k h. low k (inr h)))
valid_then e goaway push (IdsMaxPushId m g ids) n f (gis, genc, gtakes, gbelow, v) is enc names above low = (gis, genc, gtakes, gbelow, valid_then e goaway (Some m) ids n f v is enc names above low)
valid_then e goaway push (IdsUnknown id g ids) n f (u, gis, v) is enc names above low = (u, gis, valid_then e goaway push ids n f v is enc names above low)

names_is : (side : Side) (n : ℕ) → (side ≡ Client → n % 4 ≡ 0) → Names side n
names_is Client n h = h refl
names_is Server n h = tt

pub goaway_given : (e : Endpoint) (settings f : Frame) (ids : Ids) (n : ℕ) (more : List ℕ) → IsSettled e settings ids → IsFrame 0x07 f → Encodes n f.payload → (e.side ≡ Client → n % 4 ≡ 0) → ((m : ℕ) → IsPrevious m ids → n ≤ m)
    → (next : Reader) × (run (control_reader e) (written settings ++ (ids_bytes ids ++ (written f ++ more))) ≡ preceded (Whole kind.Settings settings.payload ∷ (ids_items ids ++ (Whole kind.GoAway f.payload ∷ []))) (run next more))
goaway_given e settings f ids n more s is enc kind_is low =
    let all : Ids = and_goaway ids n f in
    let x : Settles (control_reader e) (written settings ++ ids_bytes all) (Whole kind.Settings settings.payload ∷ ids_items all) e (last_goaway None all) (last_push None all) more = settings_run e settings all more s.frame s.size (valid_then e None None ids n f s.rest is enc (names_is e.side n kind_is) tt low) in
    let next : Reader = between e 0 (AfterSettings (last_goaway None all) (last_push None all)) x.streamed x.idle in (
      next,
      ap (λ (l : List ℕ). run (control_reader e) l) (
          ap (λ (l : List ℕ). written settings ++ l) (sym (append_assoc (ids_bytes ids) (written f) more) ∙ ap (λ (l : List ℕ). l ++ more) (sym (bytes_then ids n f)))
          ∙ sym (append_assoc (written settings) (ids_bytes all) more))
          ∙ x.is
          ∙ ap (λ (l : List Item). preceded (Whole kind.Settings settings.payload ∷ l) (run next more)) (items_then ids n f),
    )

-- ---- a greater ID

-- the last ID is at most the one before
still_low : (side : Side) (enabled : Bool) (k : ℕ) (push : Option ℕ) (ids : Ids) → ValidIds side enabled (Some k) push ids → (last : ℕ) × (last_goaway (Some k) ids ≡ Some last) × (last ≤ k)
still_low side enabled k push IdsEnd v = (k, refl, omega arith)
still_low side enabled k push (IdsGoAway m g ids) (is, enc, names, above, v) =
    let (last, at, low) = still_low side enabled m push ids v in
    (last, at, omega (arith, low, above))
still_low side enabled k push (IdsMaxPushId m g ids) (is, enc, takes, below, v) = still_low side enabled k (Some m) ids v
still_low side enabled k push (IdsUnknown id g ids) (u, is, v) = still_low side enabled k push ids v

last_low : (side : Side) (enabled : Bool) (m : ℕ) (goaway push : Option ℕ) (ids : Ids) → ValidIds side enabled goaway push ids → IsPrevious m ids → (last : ℕ) × (last_goaway goaway ids ≡ Some last) × (last ≤ m)
last_low side enabled m goaway push IdsEnd v h = absurd h
last_low side enabled m goaway push (IdsGoAway k g ids) (is, enc, names, above, v) (inl same) =
    let (last, at, low) = still_low side enabled k push ids v in
    (last, at, omega (arith, low, same))
last_low side enabled m goaway push (IdsGoAway k g ids) (is, enc, names, above, v) (inr h) = last_low side enabled m (Some k) push ids v h
last_low side enabled m goaway push (IdsMaxPushId k g ids) (is, enc, takes, below, v) h = last_low side enabled m goaway (Some k) ids v h
last_low side enabled m goaway push (IdsUnknown id g ids) (u, is, v) h = last_low side enabled m goaway push ids v h

pub goaway_greater : (e : Endpoint) (settings f : Frame) (ids : Ids) (n m : ℕ) → IsSettled e settings ids → IsFrame 0x07 f → Encodes n f.payload → IsPrevious m ids → m < n → AfterIds e settings ids (written f) 0x0108 Connection
goaway_greater e settings f ids n m s is enc h l =
    let (last, at, low) = last_low e.side e.webtransport m None None ids s.rest h in
    id_row e settings f ids 0x07 n fault.Id s is enc refl (goaway_rises e.side (last_goaway None ids) (last_push None ids) n last at (omega (arith, low, l)))
