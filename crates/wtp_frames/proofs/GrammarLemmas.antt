-- What the grammar has is read, however it is written.
use Rattle.std.proofs.Common.{◌≡◌, ℕ, ◌+◌, ◌%◌, ◌<◌, ◌≤◌, Bool, true, false, List, [], ◌∷◌, ◌++◌, map, length, get_or, Option, Some, None, Result, Ok, refl, sym, ap, ◌∙◌, arith, append_assoc, eq-eqb, inl, inr}
use Rattle.std.proofs.lemmas.Bool.{cases_lt, lt-ltb, le-ltb, ne_eqb}
use Rattle.std.proofs.lemmas.List.{append-nil}
use Rattle.wtp_core.specs.Varint.{Encodes, number_at}
use Rattle.wtp_core.specs.VarintLenNeeded.{byte_len_range}
use Rattle.wtp_core.proofs.EncodingLemmas.{number_at-encoding}
use Rattle.wtp_frames.specs.declared.endpoint.Endpoint.{Endpoint}
use Rattle.wtp_frames.specs.declared.endpoint.Side.{Side}
use Rattle.wtp_frames.specs.declared.endpoint.Side.TheVariants.{Client, Server}
use Rattle.wtp_frames.specs.declared.frame_type.FrameType.TheVariants as kind
use Rattle.wtp_frames.specs.declared.fault.Fault.{Fault}
use Rattle.wtp_frames.specs.declared.reader.Place.{Place}
use Rattle.wtp_frames.specs.declared.reader.Place.TheVariants.{BeforeHeaders, Body, AfterTrailers, BeforeSettings, AfterSettings}
use Rattle.wtp_frames.specs.declared.reader.Reader.{Reader}
use Rattle.wtp_frames.specs.declared.rules.Action.TheVariants.{Give, Stream, Skip}
use Rattle.wtp_frames.specs.Grammar.{Frame, written, IsFrame, IsUnknown, Trailed, TrailedEnd, TrailedUnknown, Content, ContentEnd, ContentData, ContentTrailers, ContentUnknown, Message, MessageEnd, MessageHeaders, MessageUnknown, trailed_bytes, content_bytes, message_bytes, section_item, content_items, message_items, HasRoom, count_data, ValidTrailed, ValidContent, ValidMessage, content_stage, stage, trailed_count, content_count, count, Ids, IdsEnd, IdsGoAway, IdsMaxPushId, IdsUnknown, ids_bytes, ids_items, NotAbove, NotBelow, Names, TakesPushes, ValidIds, last_goaway, last_push}
use Rattle.wtp_frames.specs.Item.{Item, Whole, Byte, TooLarge}
use Rattle.wtp_frames.specs.Rules.{section, data_frame, webtransport, without_content, number_frame, push_limit, after_settings, action_of, one_number, alone, is_request, not_above, goes_away, not_below, with_number, accepted, after_section}
use Rattle.wtp_frames.specs.Run.{Run, preceded, counted, after_data, is_failed, run}
use Rattle.wtp_frames.specs.Start.{between, place_of}
use Rattle.wtp_frames.proofs.WrittenLemmas.{whole_written, streamed_written, skipped_written, too_large_written, unknown_action, content_skips, counted_one}

-- the bytes give these items, and lead to this place
pub record Reaches (r : Reader) (bytes : List ℕ) (items : List Item) (e : Endpoint) (j : ℕ) (place : Place) (idle : ℕ) (more : List ℕ) : Type 0 where
  pub streamed : Bool
  pub is : run r (bytes ++ more) ≡ preceded items (run (between e j place streamed idle) more)

preceded_twice : (xs ys : List Item) (x : Run) → preceded xs (preceded ys x) ≡ preceded (xs ++ ys) x
preceded_twice xs ys x = ap (λ (items : List Item). record { items = items; reader = x.reader; left = x.left }) (sym (append_assoc xs ys x.items))

-- one frame, and then the others
joined : (r mid : Reader) (f : Frame) (bytes more : List ℕ) (xs ys : List Item) (e : Endpoint) (j : ℕ) (place : Place) (idle : ℕ) → run r (written f ++ (bytes ++ more)) ≡ preceded xs (run mid (bytes ++ more)) → Reaches mid bytes ys e j place idle more → Reaches r (written f ++ bytes) (xs ++ ys) e j place idle more
joined r mid f bytes more xs ys e j place idle one rest = record {
  streamed = rest.streamed;
  is =
      ap (λ (l : List ℕ). run r l) (append_assoc (written f) bytes more)
      ∙ one
      ∙ ap (λ (x : Run). preceded xs x) rest.is
      ∙ preceded_twice xs ys (run (between e j place rest.streamed idle) more);
}

-- ---- a message

-- a place where an unknown frame is skipped
pub unknown_skipped : (e : Endpoint) (j : ℕ) (place : Place) (b : Bool) (n id : ℕ) (f : Frame) (more : List ℕ) → is_failed place ≡ false → IsUnknown e.webtransport id → IsFrame id f → n < 1024 → action_of e place n kind.Unknown (length f.payload) ≡ without_content n Skip → action_of e place n kind.WebTransport (length f.payload) ≡ webtransport e (without_content n Skip) → run (between e j place b n) (written f ++ more) ≡ preceded [] (run (between e j place false (n + 1)) more)
unknown_skipped e j place b n id f more z u is l g h =
    let skip : without_content n Skip ≡ Skip = content_skips n l in
    skipped_written (between e j place b n) id f more (record { intact = z; none = refl }) is (unknown_action e id (λ k. action_of e place n k (length f.payload)) (without_content n Skip) u g h ∙ skip)
    ∙ ap (λ (k : ℕ). run (between e j place false k) more) (counted_one n l)

trailed_run : (e : Endpoint) (j : ℕ) (t : Trailed) (b : Bool) (n : ℕ) (more : List ℕ) → ValidTrailed e.webtransport n t → Reaches (between e j AfterTrailers b n) (trailed_bytes t) [] e j AfterTrailers (trailed_count n t) more
trailed_run e j TrailedEnd b n more v = record { streamed = b; is = refl }
trailed_run e j (TrailedUnknown id f t) b n more (u, is, l, v) = joined (between e j AfterTrailers b n) (between e j AfterTrailers false (n + 1)) f (trailed_bytes t) more [] [] e j AfterTrailers (trailed_count (n + 1) t) (unknown_skipped e j AfterTrailers b n id f (trailed_bytes t ++ more) refl u is l refl refl) (trailed_run e j t false (n + 1) more v)

-- the section of HEADERS, or its size
pub record Section (e : Endpoint) (j : ℕ) (place next : Place) (b : Bool) (n : ℕ) (f : Frame) (more : List ℕ) : Type 0 where
  pub is : run (between e j place b n) (written f ++ more) ≡ preceded (section_item e.max_section f.payload ∷ []) (run (between e j next false 0) more)

pub section_run : (e : Endpoint) (j : ℕ) (place next : Place) (b : Bool) (n : ℕ) (f : Frame) (more : List ℕ) → is_failed place ≡ false → is_failed next ≡ false → IsFrame 0x01 f → action_of e place n kind.Headers (length f.payload) ≡ section e (length f.payload) → accepted e.side place kind.Headers f.payload ≡ Ok next → after_section place ≡ next → Section e j place next b n f more
section_run e j place next b n f more z y is t a s = elim (cases_lt e.max_section (length f.payload)) [
  | inl over ↦ record {
    is =
        too_large_written (between e j place b n) 0x01 f more (record { intact = z; none = refl }) (ap is_failed s ∙ y) is (t ∙ rw (lt-ltb e.max_section (length f.payload) over) refl)
        ∙ ap (λ (p : Place). preceded (TooLarge (length f.payload) ∷ []) (run (between e j p false 0) more)) s
        ∙ rw (lt-ltb e.max_section (length f.payload) over) refl;
  }
  | inr fits ↦ record {
    is =
        whole_written (between e j place b n) 0x01 f more next (record { intact = z; none = refl }) is (t ∙ rw (le-ltb e.max_section (length f.payload) fits) refl) a
        ∙ rw (le-ltb e.max_section (length f.payload) fits) refl;
  }
]

pub data_action : (n : ℕ) (p : List ℕ) → HasRoom n p → data_frame n (length p) ≡ Stream
data_action n [] l = rw (lt-ltb n 1024 l) refl
data_action n (b ∷ p) l = rw (ne_eqb (length (b ∷ p)) 0 (λ z. omega (arith, z))) refl

pub data_counted : (n : ℕ) (p : List ℕ) → HasRoom n p → after_data n (length p) ≡ count_data n p
data_counted n [] l = counted_one n l
data_counted n (b ∷ p) l = rw (ne_eqb (length (b ∷ p)) 0 (λ z. omega (arith, z))) refl

pub data_run : (e : Endpoint) (j : ℕ) (b : Bool) (n : ℕ) (f : Frame) (more : List ℕ) → IsFrame 0x00 f → HasRoom n f.payload → run (between e j Body b n) (written f ++ more) ≡ preceded (map Byte f.payload) (run (between e j Body true (count_data n f.payload)) more)
data_run e j b n f more is l =
    streamed_written (between e j Body b n) 0x00 f more (record { intact = refl; none = refl }) is (data_action n f.payload l)
    ∙ ap (λ (k : ℕ). preceded (map Byte f.payload) (run (between e j Body true k) more)) (data_counted n f.payload l)

content_run : (e : Endpoint) (j : ℕ) (c : Content) (b : Bool) (n : ℕ) (more : List ℕ) → ValidContent e.webtransport n c → Reaches (between e j Body b n) (content_bytes c) (content_items e.max_section c) e j (place_of (content_stage c)) (content_count n c) more
content_run e j ContentEnd b n more v = record { streamed = b; is = refl }
content_run e j (ContentData f c) b n more (is, l, v) = joined (between e j Body b n) (between e j Body true (count_data n f.payload)) f (content_bytes c) more (map Byte f.payload) (content_items e.max_section c) e j (place_of (content_stage c)) (content_count (count_data n f.payload) c) (data_run e j b n f (content_bytes c ++ more) is l) (content_run e j c true (count_data n f.payload) more v)
content_run e j (ContentTrailers f t) b n more (is, v) =
    let s : Section e j Body AfterTrailers b n f (trailed_bytes t ++ more) = section_run e j Body AfterTrailers b n f (trailed_bytes t ++ more) refl refl is refl refl refl in
    joined (between e j Body b n) (between e j AfterTrailers false 0) f (trailed_bytes t) more (section_item e.max_section f.payload ∷ []) [] e j AfterTrailers (trailed_count 0 t) s.is (trailed_run e j t false 0 more v)
content_run e j (ContentUnknown id f c) b n more (u, is, l, v) = joined (between e j Body b n) (between e j Body false (n + 1)) f (content_bytes c) more [] (content_items e.max_section c) e j (place_of (content_stage c)) (content_count (n + 1) c) (unknown_skipped e j Body b n id f (content_bytes c ++ more) refl u is l refl refl) (content_run e j c false (n + 1) more v)

pub message_run : (e : Endpoint) (j : ℕ) (m : Message) (b : Bool) (n : ℕ) (more : List ℕ) → ValidMessage e.webtransport n m → Reaches (between e j BeforeHeaders b n) (message_bytes m) (message_items e.max_section m) e j (place_of (stage m)) (count n m) more
message_run e j MessageEnd b n more v = record { streamed = b; is = refl }
message_run e j (MessageHeaders f c) b n more (is, v) =
    let s : Section e j BeforeHeaders Body b n f (content_bytes c ++ more) = section_run e j BeforeHeaders Body b n f (content_bytes c ++ more) refl refl is refl refl refl in
    joined (between e j BeforeHeaders b n) (between e j Body false 0) f (content_bytes c) more (section_item e.max_section f.payload ∷ []) (content_items e.max_section c) e j (place_of (content_stage c)) (content_count 0 c) s.is (content_run e j c false 0 more v)
message_run e j (MessageUnknown id f m) b n more (u, is, l, v) = joined (between e j BeforeHeaders b n) (between e j BeforeHeaders false (n + 1)) f (message_bytes m) more [] (message_items e.max_section m) e j (place_of (stage m)) (count (n + 1) m) (unknown_skipped e j BeforeHeaders b n id f (message_bytes m ++ more) refl u is l refl refl) (message_run e j m false (n + 1) more v)

-- ---- a control stream

-- the bytes give these items, and lead to these last IDs
pub record Settles (r : Reader) (bytes : List ℕ) (items : List Item) (e : Endpoint) (goaway push : Option ℕ) (more : List ℕ) : Type 0 where
  pub streamed : Bool
  pub idle : ℕ
  pub is : run r (bytes ++ more) ≡ preceded items (run (between e 0 (AfterSettings goaway push) streamed idle) more)

settled : (r mid : Reader) (f : Frame) (bytes more : List ℕ) (xs ys : List Item) (e : Endpoint) (goaway push : Option ℕ) → run r (written f ++ (bytes ++ more)) ≡ preceded xs (run mid (bytes ++ more)) → Settles mid bytes ys e goaway push more → Settles r (written f ++ bytes) (xs ++ ys) e goaway push more
settled r mid f bytes more xs ys e goaway push one rest = record {
  streamed = rest.streamed;
  idle = rest.idle;
  is =
      ap (λ (l : List ℕ). run r l) (append_assoc (written f) bytes more)
      ∙ one
      ∙ ap (λ (x : Run). preceded xs x) rest.is
      ∙ preceded_twice xs ys (run (between e 0 (AfterSettings goaway push) rest.streamed rest.idle) more);
}

pub encoded_small : (n : ℕ) (s : List ℕ) → Encodes n s → length s ≤ 8
encoded_small n s h = omega (arith, h.size, (byte_len_range (get_or s 0 0)).1)

pub encoded_number : (n : ℕ) (s : List ℕ) → Encodes n s → one_number s ≡ Some n
unfolding one_number
encoded_number n s h = ap (λ (l : List ℕ). alone (number_at l)) (sym (append-nil s)) ∙ ap alone (number_at-encoding n s [] h)

pub number_gives : (n : ℕ) → n ≤ 8 → number_frame n ≡ Give
number_gives n l = rw (le-ltb 8 n l) refl

requests : (side : Side) (n : ℕ) → Names side n → is_request side n ≡ Ok n
requests Client n h = rw (eq-eqb (n % 4) 0 h) refl
requests Server n h = refl

falls : (goaway push : Option ℕ) (n : ℕ) → NotAbove goaway n → not_above goaway n push ≡ Ok (AfterSettings (Some n) push)
falls None push n h = refl
falls (Some last) push n h = rw (le-ltb last n h) refl

rises : (goaway push : Option ℕ) (n : ℕ) → NotBelow push n → not_below goaway push n ≡ Ok (AfterSettings goaway (Some n))
rises goaway None n h = refl
rises goaway (Some last) n h = rw (le-ltb n last h) refl

takes_pushes : (side : Side) (n : ℕ) → TakesPushes side → push_limit side n ≡ number_frame n
takes_pushes Client n h = absurd h
takes_pushes Server n h = refl

pub ids_run : (e : Endpoint) (ids : Ids) (b : Bool) (i : ℕ) (goaway push : Option ℕ) (more : List ℕ) → ValidIds e.side e.webtransport goaway push ids → Settles (between e 0 (AfterSettings goaway push) b i) (ids_bytes ids) (ids_items ids) e (last_goaway goaway ids) (last_push push ids) more
ids_run e IdsEnd b i goaway push more v = record { streamed = b; idle = i; is = refl }
ids_run e (IdsGoAway n f ids) b i goaway push more (is, enc, names, above, v) =
    settled (between e 0 (AfterSettings goaway push) b i) (between e 0 (AfterSettings (Some n) push) false 0) f (ids_bytes ids) more (Whole kind.GoAway f.payload ∷ []) (ids_items ids) e (last_goaway (Some n) ids) (last_push push ids)
    (whole_written (between e 0 (AfterSettings goaway push) b i) 0x07 f (ids_bytes ids ++ more) (AfterSettings (Some n) push) (record { intact = refl; none = refl }) is (number_gives (length f.payload) (encoded_small n f.payload enc))
    (ap (λ (o : Option ℕ). with_number e.side goaway push kind.GoAway o) (encoded_number n f.payload enc)
    ∙ ap (λ (x : Result ℕ Fault). goes_away goaway push x) (requests e.side n names)
    ∙ falls goaway push n above))
    (ids_run e ids false 0 (Some n) push more v)
ids_run e (IdsMaxPushId n f ids) b i goaway push more (is, enc, takes, below, v) =
    settled (between e 0 (AfterSettings goaway push) b i) (between e 0 (AfterSettings goaway (Some n)) false 0) f (ids_bytes ids) more (Whole kind.MaxPushId f.payload ∷ []) (ids_items ids) e (last_goaway goaway ids) (last_push (Some n) ids)
    (whole_written (between e 0 (AfterSettings goaway push) b i) 0x0d f (ids_bytes ids ++ more) (AfterSettings goaway (Some n)) (record { intact = refl; none = refl }) is (takes_pushes e.side (length f.payload) takes ∙ number_gives (length f.payload) (encoded_small n f.payload enc))
    (ap (λ (o : Option ℕ). with_number e.side goaway push kind.MaxPushId o) (encoded_number n f.payload enc)
    ∙ rises goaway push n below))
    (ids_run e ids false 0 goaway (Some n) more v)
ids_run e (IdsUnknown id f ids) b i goaway push more (u, is, v) =
    settled (between e 0 (AfterSettings goaway push) b i) (between e 0 (AfterSettings goaway push) false (counted i)) f (ids_bytes ids) more [] (ids_items ids) e (last_goaway goaway ids) (last_push push ids)
    (skipped_written (between e 0 (AfterSettings goaway push) b i) id f (ids_bytes ids ++ more) (record { intact = refl; none = refl }) is (unknown_action e id (λ k. after_settings e k (length f.payload)) Skip u refl refl))
    (ids_run e ids false (counted i) goaway push more v)

-- SETTINGS, and IDs
pub settings_run : (e : Endpoint) (f : Frame) (ids : Ids) (more : List ℕ) → IsFrame 0x04 f → length f.payload ≤ 4096 → ValidIds e.side e.webtransport None None ids → Settles (between e 0 BeforeSettings false 0) (written f ++ ids_bytes ids) (Whole kind.Settings f.payload ∷ ids_items ids) e (last_goaway None ids) (last_push None ids) more
settings_run e f ids more is l v =
    settled (between e 0 BeforeSettings false 0) (between e 0 (AfterSettings None None) false 0) f (ids_bytes ids) more (Whole kind.Settings f.payload ∷ []) (ids_items ids) e (last_goaway None ids) (last_push None ids)
    (whole_written (between e 0 BeforeSettings false 0) 0x04 f (ids_bytes ids ++ more) (AfterSettings None None) (record { intact = refl; none = refl }) is (rw (le-ltb 4096 (length f.payload) l) refl) refl)
    (ids_run e ids false 0 None None more v)
