-- The first thing that a frame gives as it is written, and that nothing is given and nothing changes before all
-- of its bytes came.
use Rattle.std.proofs.Common.{◌≡◌, ℕ, ◌<◌, List, [], ◌∷◌, ◌++◌, length, Option, Some, None, Ok, refl, sym, ap, ◌∙◌, arith, length-append}
use Rattle.std.proofs.lemmas.List.{append-nil}
use Rattle.wtp_core.specs.Varint.{bytes_at, Encodes}
use Rattle.wtp_core.proofs.EncodingLemmas.{bytes_at-append}
use Rattle.wtp_frames.specs.declared.reader.Place.{Place}
use Rattle.wtp_frames.specs.declared.reader.Reader.{Reader}
use Rattle.wtp_frames.specs.FrameType.{type_of}
use Rattle.wtp_frames.specs.Grammar.{Frame, written, IsFrame}
use Rattle.wtp_frames.specs.Item.{Whole}
use Rattle.wtp_frames.specs.Run.{stays, moved, head_at, by_place}
use Rattle.wtp_frames.specs.First.{first, moves}
use Rattle.wtp_frames.proofs.HeadLemmas.{head_more, head_shorter, bytes_missing}
use Rattle.wtp_frames.proofs.FirstLemmas.{first_goes, first_gives, first_stuck, moves_head}
use Rattle.wtp_frames.proofs.RunLemmas.{AtHead}
use Rattle.wtp_frames.proofs.WrittenLemmas.{head_encoded, head_written}

-- ---- bytes of which some are missing

-- nothing follows all of the bytes
pub none_left : (rest b : List ℕ) → rest ++ b ≡ [] → 0 < length b → ⊥
none_left rest b e l = omega (arith, l, ap length e, length-append rest b)

-- ---- a frame that is given whole

-- the reader gives such a frame
abbrev pub GivesWhole : Reader → ℕ → List ℕ → Place → Type 0
GivesWhole r id payload place =
    (bytes rest left : List ℕ) → head_at bytes ≡ Some (id, length payload, rest) → bytes_at (length payload) rest ≡ Some (payload, left)
    → moves r bytes ≡ by_place (λ s l. stays s l) r (type_of id) payload left (Ok place)

-- and waits for its payload
abbrev pub WaitsWhole : Reader → ℕ → ℕ → Type 0
WaitsWhole r id n = (bytes rest : List ℕ) → head_at bytes ≡ Some (id, n, rest) → bytes_at n rest ≡ None → moves r bytes ≡ stays r bytes

pub first_whole : (r : Reader) (id : ℕ) (f : Frame) (more : List ℕ) (place : Place) → IsFrame id f → GivesWhole r id f.payload place → first r (written f ++ more) ≡ record { items = Whole (type_of id) f.payload ∷ []; reader = moved r place; left = more }
first_whole r id f more place is g =
    first_gives r (written f ++ more) (record { items = Whole (type_of id) f.payload ∷ []; reader = moved r place; left = more })
    (g (written f ++ more) (f.payload ++ more) more (head_written id f more is) (bytes_at-append f.payload more))
    refl

-- the head that is there is that of the frame
record SameHead (id n i m : ℕ) (payload rest b : List ℕ) : Type 0 where
  type_is : i ≡ id
  size_is : m ≡ n
  rest_is : rest ++ b ≡ payload

same_head : (id n i m : ℕ) (payload rest b : List ℕ) (o : Option (ℕ × ℕ × List ℕ)) → o ≡ Some (i, m, rest ++ b) → o ≡ Some (id, n, payload) → SameHead id n i m payload rest b
same_head id n i m payload rest b o e f =
    let same : (i, m, rest ++ b) ≡ (id, n, payload) = some_is (i, m, rest ++ b) (id, n, payload) (sym e ∙ f) in
    record {
      type_is = ap (λ (x : ℕ × ℕ × List ℕ). x.0) same;
      size_is = ap (λ (x : ℕ × ℕ × List ℕ). x.1) same;
      rest_is = ap (λ (x : ℕ × ℕ × List ℕ). x.2) same;
    }
  where
    some_is : (x y : ℕ × ℕ × List ℕ) → Some x ≡ Some y → x ≡ y
    some_is x y h = cc

abbrev stays_first : Reader → List ℕ → Type 0
stays_first r a = first r a ≡ stays r a

part_by : (r : Reader) (id : ℕ) (f : Frame) (a b : List ℕ) (o : Option (ℕ × ℕ × List ℕ)) → AtHead r → IsFrame id f → WaitsWhole r id (length f.payload) → a ++ b ≡ written f → 0 < length b → head_at a ≡ o → stays_first r a
part_by r id f a b None z is t e l h = first_stuck r r a a (moves_head r a None z h) (omega arith)
part_by r id f a b (Some x) z is t e l h =
    let whole : head_at (written f) ≡ Some (id, length f.payload, f.payload) =
    ap head_at (sym (append-nil (written f))) ∙ head_written id f [] is ∙ ap (λ (p : List ℕ). Some (id, length f.payload, p)) (append-nil f.payload) in
    let same : SameHead id (length f.payload) x.0 x.1 f.payload x.2 b =
    same_head id (length f.payload) x.0 x.1 f.payload x.2 b (head_at (a ++ b)) (head_more a x.2 b x.0 x.1 h) (ap head_at e ∙ whole) in
    let few : length x.2 < length f.payload = omega (arith, l, ap length same.rest_is, length-append x.2 b) in
    let head : head_at a ≡ Some (id, length f.payload, x.2) = h ∙ ap (λ (i : ℕ). Some (i, x.1, x.2)) same.type_is ∙ ap (λ (n : ℕ). Some (id, n, x.2)) same.size_is in
    first_stuck r r a a (t a x.2 head (bytes_missing (length f.payload) x.2 few)) (omega arith)

pub first_part : (r : Reader) (id : ℕ) (f : Frame) (a b : List ℕ) → AtHead r → IsFrame id f → WaitsWhole r id (length f.payload) → a ++ b ≡ written f → 0 < length b → first r a ≡ stays r a
first_part r id f a b z is t e l = part_by r id f a b (head_at a) z is t e l refl

-- ---- the head of a frame whose payload is given in pieces

-- the reader goes on with the payload
abbrev pub Streams : Reader → Reader → ℕ → ℕ → Type 0
Streams r next id n = (bytes rest : List ℕ) → head_at bytes ≡ Some (id, n, rest) → moves r bytes ≡ stays next rest

pub first_streamed : (r next : Reader) (id n : ℕ) (t u more : List ℕ) → Encodes id t → Encodes n u → Streams r next id n → first r (t ++ (u ++ more)) ≡ first next more
first_streamed r next id n t u more f g is =
    let head : head_at (t ++ (u ++ more)) ≡ Some (id, n, more) = head_encoded id n t u more f g in
    first_goes r next (t ++ (u ++ more)) more (is (t ++ (u ++ more)) more head) (head_shorter (t ++ (u ++ more)) more id n head)

head_by : (r : Reader) (id n : ℕ) (t u a b : List ℕ) (o : Option (ℕ × ℕ × List ℕ)) → AtHead r → Encodes id t → Encodes n u → a ++ b ≡ t ++ u → 0 < length b → head_at a ≡ o → stays_first r a
head_by r id n t u a b None z f g e l h = first_stuck r r a a (moves_head r a None z h) (omega arith)
head_by r id n t u a b (Some x) z f g e l h =
    let whole : head_at (t ++ u) ≡ Some (id, n, []) = ap (λ (y : List ℕ). head_at (t ++ y)) (sym (append-nil u)) ∙ head_encoded id n t u [] f g in
    let same : SameHead id n x.0 x.1 [] x.2 b = same_head id n x.0 x.1 [] x.2 b (head_at (a ++ b)) (head_more a x.2 b x.0 x.1 h) (ap head_at e ∙ whole) in
    absurd (none_left x.2 b same.rest_is l)

-- before it came
pub first_unstreamed : (r : Reader) (id n : ℕ) (t u a b : List ℕ) → AtHead r → Encodes id t → Encodes n u → a ++ b ≡ t ++ u → 0 < length b → first r a ≡ stays r a
first_unstreamed r id n t u a b z f g e l = head_by r id n t u a b (head_at a) z f g e l refl
