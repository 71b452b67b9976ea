-- A field section says the same each time that it is read, unless memory is wanting.
use Rattle.std.proofs.Common.{◌≡◌, ◌⊎◌, ℕ, ◌+◌, ◌<◌, ◌≤◌, nat_lt, cond, Bool, true, false, List, [], ◌∷◌, ◌++◌, length, Option, Some, None, Result, Ok, Err, refl, sym, ap, subst, ◌∙◌, arith, inl, inr}
use Rattle.std.proofs.lemmas.List.{append-nil}
use Rattle.std.proofs.lemmas.List.Sums.{sum_by-append}
use Rattle.wtp_qpack.specs.declared.qpack.DecodingError.{DecodingError}
use Rattle.wtp_qpack.specs.Field.{Field}
use Rattle.wtp_qpack.specs.FieldSection.{after_prefix}
use Rattle.wtp_qpack.specs.FieldLine.{line_in}
use Rattle.wtp_qpack.specs.FieldLines.{octet_line_at, AreOctetLines}
use Rattle.wtp_fields.specs.declared.fields.FieldSectionError.{FieldSectionError}
use Rattle.wtp_fields.specs.declared.fields.FieldSectionError.TheVariants as section_error
use Rattle.wtp_fields.specs.FieldList.{field_size, list_size, Reaches, HasFaultyLine, ExceedsLimit, DecodesTo}
use Rattle.wtp_messages.specs.declared.malformed.Malformed.{Malformed}
use Rattle.wtp_messages.specs.declared.content.Content.{Content}
use Rattle.wtp_messages.specs.declared.message.Message.{Message}
use Rattle.wtp_messages.specs.declared.message.Role.{Role}
use Rattle.wtp_messages.specs.declared.message.Role.TheVariants as role
use Rattle.wtp_messages.specs.declared.message.Stage.{Stage}
use Rattle.wtp_messages.specs.declared.message.Stage.TheVariants as stage
use Rattle.wtp_messages.specs.declared.message.Section.{Section}
use Rattle.wtp_messages.specs.declared.message.Section.TheVariants as found
use Rattle.wtp_messages.specs.declared.section.SectionKind.TheVariants as section
use Rattle.wtp_messages.specs.Section.{section_breaks}
use Rattle.wtp_messages.specs.Content.{content_of}
use Rattle.wtp_messages.specs.Length.{content_length}
use Rattle.wtp_messages.specs.Request.{request_breaks}
use Rattle.wtp_messages.specs.Response.{response_breaks, status_of, expected}
use Rattle.wtp_messages.specs.declared.response.Asked.{Asked}
use Rattle.wtp_messages.specs.Message.{with_head, with_trailers, RequestComes, ResponseComes, TrailersCome, HeadComes, SectionComes}
use Rattle.wtp_webtransport.specs.declared.connection.messages.Taken.{Taken}
use Rattle.wtp_webtransport.specs.declared.connection.messages.Taken.TheVariants as taken
use Rattle.wtp_webtransport.specs.Receiving.{taken_of}
use Rattle.wtp_webtransport.specs.Calls.{ruleless_taken}

-- ---- lines

no_line : (field : Field) (behind : List ℕ) → octet_line_at [] ≡ Ok (field, behind) → ⊥
unfolding line_in
no_line field behind e = cc e

ok_line : (o : Result (Field × List ℕ) DecodingError) (x y : Field × List ℕ) → o ≡ Ok x → o ≡ Ok y → x ≡ y
ok_line o x y e f = cc

ok_not : (o : Result (Field × List ℕ) DecodingError) (x : Field × List ℕ) (f : DecodingError) → o ≡ Ok x → o ≡ Err f → ⊥
ok_not o x f e g = cc

err_is : (o : Result (Field × List ℕ) DecodingError) (x y : DecodingError) → o ≡ Err x → o ≡ Err y → x ≡ y
err_is o x y e f = cc

-- lines from the same start: the shorter ones are the first of the longer
record Further (xs ys : List Field) (r s : List ℕ) : Type 0 where
  more : List Field
  are : AreOctetLines r more s
  is : ys ≡ xs ++ more

one_more : (x y : Field) (xs ys : List Field) (r s : List ℕ) → x ≡ y → Further xs ys r s → Further (x ∷ xs) (y ∷ ys) r s
one_more x y xs ys r s e h = record { more = h.more; are = h.are; is = ap (λ (l : List Field). y ∷ l) h.is ∙ ap (λ (z : Field). z ∷ (xs ++ h.more)) (sym e) }

compare : (xs ys : List Field) (start r s : List ℕ) → AreOctetLines start xs r → AreOctetLines start ys s → Further xs ys r s ⊎ Further ys xs s r
compare [] ys start r s e are = inl (record { more = ys; are = subst (λ (l : List ℕ). AreOctetLines l ys s) e are; is = refl })
compare (x ∷ xs) [] start r s are e = inr (record { more = x ∷ xs; are = subst (λ (l : List ℕ). AreOctetLines l (x ∷ xs) r) e are; is = refl })
compare (x ∷ xs) (y ∷ ys) start r s a b =
    let same : (x, a.0) ≡ (y, b.0) = ok_line (octet_line_at start) (x, a.0) (y, b.0) a.1 b.1 in
    let head : x ≡ y = ap (λ (p : Field × List ℕ). p.0) same in
    let rest : AreOctetLines b.0 xs r = subst (λ (l : List ℕ). AreOctetLines l xs r) (ap (λ (p : Field × List ℕ). p.1) same) a.2 in
    elim (compare xs ys b.0 r s rest b.2) [
      | inl h ↦ inl (one_more x y xs ys r s head h)
      | inr h ↦ inr (one_more y x ys xs s r (sym head) h)
    ]

-- no line follows the last byte, nor bytes that are no line
none_after : (more : List Field) (s : List ℕ) → AreOctetLines [] more s → s ≡ []
none_after [] s e = sym e
none_after (x ∷ more) s are = absurd (no_line x are.0 are.1)

none_of : (more : List Field) (s : List ℕ) → AreOctetLines [] more s → more ≡ []
none_of [] s e = refl
none_of (x ∷ more) s are = absurd (no_line x are.0 are.1)

no_fault : (more : List Field) (r s : List ℕ) (f : DecodingError) → octet_line_at r ≡ Err f → AreOctetLines r more s → s ≡ r
no_fault [] r s f e are = sym are
no_fault (x ∷ more) r s f e are = absurd (ok_not (octet_line_at r) (x, are.0) f are.1 e)

empty_fault : (r : List ℕ) → 0 < length r → r ≡ [] → ⊥
empty_fault r l e = omega (arith, l, ap length e)

-- a line that is too much
too_much : (limit : ℕ) (xs ys more : List Field) (r s : List ℕ) (field : Field) (behind : List ℕ) → list_size xs ≤ limit → limit < list_size ys + field_size field → octet_line_at r ≡ Ok (field, behind) → AreOctetLines r more s → xs ≡ ys ++ more → (s ≡ r → ⊥) → ⊥
too_much limit xs ys [] r s field behind fits over is are e h = h (sym are)
too_much limit xs ys (x ∷ more) r s field behind fits over is are e h =
    let same : x ≡ field = ap (λ (p : Field × List ℕ). p.0) (ok_line (octet_line_at r) (x, are.0) (field, behind) are.1 is) in
    omega (arith, fits, over, ap list_size e, sum_by-append field_size ys (x ∷ more), sum_by-append field_size (x ∷ []) more, ap field_size same, one_size x more)
  where
    one_size : (x : Field) (more : List Field) → list_size (x ∷ more) ≡ field_size x + list_size more
    one_size x more = let one : list_size (x ∷ []) ≡ field_size x = omega arith in omega (arith, sum_by-append field_size (x ∷ []) more, one)

-- ---- two results of one section

start_is : (section : List ℕ) (a b : List ℕ) → after_prefix section ≡ Ok a → after_prefix section ≡ Ok b → a ≡ b
start_is section a b e f = ok_same (after_prefix section) a b e f
  where
    ok_same : (o : Result (List ℕ) DecodingError) (x y : List ℕ) → o ≡ Ok x → o ≡ Ok y → x ≡ y
    ok_same o x y e f = cc

reached : (limit : ℕ) (section : List ℕ) (xs ys : List Field) (r s : List ℕ) → Reaches limit section xs r → Reaches limit section ys s → Further xs ys r s ⊎ Further ys xs s r
reached limit section xs ys r s a b = compare xs ys b.start r s (subst (λ (l : List ℕ). AreOctetLines l xs r) (start_is section a.start b.start a.prefix b.prefix) a.are) b.are

fields_same : (limit : ℕ) (section : List ℕ) (xs ys : List Field) → Reaches limit section xs [] → Reaches limit section ys [] → xs ≡ ys
fields_same limit section xs ys a b = elim (reached limit section xs ys [] [] a b) [
  | inl h ↦ sym (h.is ∙ ap (λ (l : List Field). xs ++ l) (none_of h.more [] h.are) ∙ append-nil xs)
  | inr h ↦ h.is ∙ ap (λ (l : List Field). ys ++ l) (none_of h.more [] h.are) ∙ append-nil ys
]

no_faulty : (limit : ℕ) (section : List ℕ) (xs : List Field) (f : DecodingError) → Reaches limit section xs [] → HasFaultyLine limit section f → ⊥
no_faulty limit section xs f a b = elim (reached limit section xs b.fields [] b.rest a b.reached) [
  | inl h ↦ empty_fault b.rest b.some (none_after h.more b.rest h.are)
  | inr h ↦ empty_fault b.rest b.some (sym (no_fault h.more b.rest [] f b.is h.are))
]

no_excess : (limit : ℕ) (section : List ℕ) (xs : List Field) (s : List ℕ) → Reaches limit section xs s → (b : ExceedsLimit limit section) → (s ≡ b.rest → ⊥) → ((more : List Field) → AreOctetLines s more b.rest → s ≡ b.rest) → ⊥
no_excess limit section xs s a b differs stops = elim (reached limit section xs b.fields s b.rest a b.reached) [
  | inl h ↦ differs (stops h.more h.are)
  | inr h ↦ too_much limit xs b.fields h.more b.rest s b.field b.behind a.fits b.exceeds b.is h.are h.is differs
]

full_excess : (limit : ℕ) (section : List ℕ) (xs : List Field) → Reaches limit section xs [] → ExceedsLimit limit section → ⊥
full_excess limit section xs a b = no_excess limit section xs [] a b (λ e. no_line b.field b.behind (subst (λ (l : List ℕ). octet_line_at l ≡ Ok (b.field, b.behind)) (sym e) b.is)) (λ more are. sym (none_after more b.rest are))

faulty_excess : (limit : ℕ) (section : List ℕ) (f : DecodingError) → HasFaultyLine limit section f → ExceedsLimit limit section → ⊥
faulty_excess limit section f a b = no_excess limit section a.fields a.rest a.reached b (λ e. ok_not (octet_line_at b.rest) (b.field, b.behind) f b.is (subst (λ (l : List ℕ). octet_line_at l ≡ Err f) e a.is)) (λ more are. sym (no_fault more a.rest b.rest f a.is are))

faults_same : (limit : ℕ) (section : List ℕ) (f g : DecodingError) → HasFaultyLine limit section f → HasFaultyLine limit section g → f ≡ g
faults_same limit section f g a b = elim (reached limit section a.fields b.fields a.rest b.rest a.reached b.reached) [
  | inl h ↦ err_is (octet_line_at a.rest) f g a.is (subst (λ (l : List ℕ). octet_line_at l ≡ Err g) (no_fault h.more a.rest b.rest f a.is h.are) b.is)
  | inr h ↦ err_is (octet_line_at b.rest) f g (subst (λ (l : List ℕ). octet_line_at l ≡ Err f) (no_fault h.more b.rest a.rest g b.is h.are) a.is) b.is
]

no_prefix : (section start : List ℕ) (f : DecodingError) → after_prefix section ≡ Ok start → after_prefix section ≡ Err f → ⊥
no_prefix section start f e g = cc

prefix_same : (o : Result (List ℕ) DecodingError) (f g : DecodingError) → o ≡ Err f → o ≡ Err g → f ≡ g
prefix_same o f g a b = cc

decoding_same : (limit : ℕ) (section : List ℕ) (f g : DecodingError) → DecodesTo limit section (Err (section_error.Decoding f)) → DecodesTo limit section (Err (section_error.Decoding g)) → f ≡ g
decoding_same limit section f g (inl a) (inl b) = prefix_same (after_prefix section) f g a b
decoding_same limit section f g (inl a) (inr b) = absurd (no_prefix section b.reached.start f b.reached.prefix a)
decoding_same limit section f g (inr a) (inl b) = absurd (no_prefix section a.reached.start g a.reached.prefix b)
decoding_same limit section f g (inr a) (inr b) = faults_same limit section f g a b

no_decoding : (limit : ℕ) (section : List ℕ) (xs : List Field) (f : DecodingError) → Reaches limit section xs [] → DecodesTo limit section (Err (section_error.Decoding f)) → ⊥
no_decoding limit section xs f a (inl b) = no_prefix section a.start f a.prefix b
no_decoding limit section xs f a (inr b) = no_faulty limit section xs f a b

excess_decoding : (limit : ℕ) (section : List ℕ) (f : DecodingError) → ExceedsLimit limit section → DecodesTo limit section (Err (section_error.Decoding f)) → ⊥
excess_decoding limit section f a (inl b) = no_prefix section a.reached.start f a.reached.prefix b
excess_decoding limit section f a (inr b) = faulty_excess limit section f b a

-- memory was wanting
abbrev pub Lacks : Result (List Field) FieldSectionError → Type 0
Lacks (Err section_error.Memory) = Unit {0}
Lacks other = ⊥

pub decoded_same : (limit : ℕ) (section : List ℕ) (x y : Result (List Field) FieldSectionError) → (Lacks x → ⊥) → (Lacks y → ⊥) → DecodesTo limit section x → DecodesTo limit section y → x ≡ y
decoded_same limit section (Ok xs) (Ok ys) m n a b = ap (λ (l : List Field). Ok l) (fields_same limit section xs ys a b)
decoded_same limit section (Ok xs) (Err (section_error.Decoding f)) m n a b = absurd (no_decoding limit section xs f a b)
decoded_same limit section (Ok xs) (Err section_error.TooLarge) m n a b = absurd (full_excess limit section xs a b)
decoded_same limit section (Err (section_error.Decoding f)) (Ok ys) m n a b = absurd (no_decoding limit section ys f b a)
decoded_same limit section (Err (section_error.Decoding f)) (Err (section_error.Decoding g)) m n a b = ap (λ (e : DecodingError). Err (section_error.Decoding e)) (decoding_same limit section f g a b)
decoded_same limit section (Err (section_error.Decoding f)) (Err section_error.TooLarge) m n a b = absurd (excess_decoding limit section f b a)
decoded_same limit section (Err section_error.TooLarge) (Ok ys) m n a b = absurd (full_excess limit section ys b a)
decoded_same limit section (Err section_error.TooLarge) (Err (section_error.Decoding g)) m n a b = absurd (excess_decoding limit section g a b)
decoded_same limit section (Err section_error.TooLarge) (Err section_error.TooLarge) m n a b = refl
decoded_same limit section (Err section_error.Memory) y m n a b = absurd (m tt)
decoded_same limit section x (Err section_error.Memory) m n a b = absurd (n tt)

-- ---- what a section of a message is

-- a section that breaks none of these rules is this, and leads to this message; otherwise it breaks one
data Says (breaks : Malformed → Bool) (t : Taken) (p m : Message) (x : Result Section Malformed) (n : Message) : Type 0 where
  Good : ((rule : Malformed) → breaks rule ≡ false) → taken_of x ≡ t → n ≡ p → Says breaks t p m x n
  Bad : (rule : Malformed) → breaks rule ≡ true → taken_of x ≡ taken.Malformed rule → n ≡ m → Says breaks t p m x n

broken : (breaks : Malformed → Bool) (rule : Malformed) → breaks rule ≡ false → breaks rule ≡ true → ⊥
broken breaks rule e f = cc

pub record Alike (x y : Taken) (n k : Message) : Type 0 where
  pub taken : ruleless_taken x ≡ ruleless_taken y
  pub message : n ≡ k

says_same : (breaks : Malformed → Bool) (t : Taken) (p m : Message) (x y : Result Section Malformed) (n k : Message) → Says breaks t p m x n → Says breaks t p m y k → Alike (taken_of x) (taken_of y) n k
says_same breaks t p m x y n k (Good g e f) (Good h i j) = record { taken = ap ruleless_taken (e ∙ sym i); message = f ∙ sym j }
says_same breaks t p m x y n k (Good g e f) (Bad rule b i j) = absurd (broken breaks rule (g rule) b)
says_same breaks t p m x y n k (Bad rule b e f) (Good h i j) = absurd (broken breaks rule (h rule) b)
says_same breaks t p m x y n k (Bad rule b e f) (Bad other c i j) = record { taken = ap ruleless_taken e ∙ sym (ap ruleless_taken i); message = f ∙ sym j }

request_says : (extended : Bool) (m : Message) (fields : List Field) (x : Result Section Malformed) (n : Message) → RequestComes extended m fields x n → Says (λ rule. request_breaks extended fields rule) taken.Request (with_head m (content_of (content_length fields))) m x n
request_says extended m fields (Ok (found.Request request)) n h = Good h.0.well_formed refl (h.1 ∙ ap (λ (c : Content). with_head m c) (sym h.0.content))
request_says extended m fields (Err rule) n h = Bad rule h.0 refl h.1
request_says extended m fields (Ok other) n h = absurd h

-- by the status of a response
abbrev response_taken : Asked → Message → List Field → Option ℕ → Taken × Message
response_taken asked m fields None = (taken.Trailers, m)
response_taken asked m fields (Some status) =
    cond (nat_lt status 200) (taken.Interim status, m) (taken.Response status, with_head m (content_of (expected asked status (content_length fields))))

abbrev response_by : Asked → Message → List Field → Taken × Message
response_by asked m fields = response_taken asked m fields (status_of fields)

response_says : (asked : Asked) (m : Message) (fields : List Field) (x : Result Section Malformed) (n : Message) → ResponseComes asked m fields x n → Says (λ rule. response_breaks asked fields rule) (response_by asked m fields).0 (response_by asked m fields).1 m x n
response_says asked m fields (Ok (found.Interim response)) n h =
    let by : response_by asked m fields ≡ (taken.Interim response.status, m) = ap (λ (o : Option ℕ). response_taken asked m fields o) h.0.status ∙ ap (λ (b : Bool). cond {A = Taken × Message} b (taken.Interim response.status, m) (taken.Response response.status, with_head m (content_of (expected asked response.status (content_length fields))))) h.1 in
    Good h.0.well_formed (sym (ap (λ (p : Taken × Message). p.0) by)) (h.2 ∙ sym (ap (λ (p : Taken × Message). p.1) by))
response_says asked m fields (Ok (found.Response response)) n h =
    let by : response_by asked m fields ≡ (taken.Response response.status, with_head m (content_of (expected asked response.status (content_length fields)))) = ap (λ (o : Option ℕ). response_taken asked m fields o) h.0.status ∙ ap (λ (b : Bool). cond {A = Taken × Message} b (taken.Interim response.status, m) (taken.Response response.status, with_head m (content_of (expected asked response.status (content_length fields))))) h.1 in
    Good h.0.well_formed (sym (ap (λ (p : Taken × Message). p.0) by)) (h.2 ∙ ap (λ (c : Content). with_head m c) (sym h.0.content) ∙ sym (ap (λ (p : Taken × Message). p.1) by))
response_says asked m fields (Err rule) n h = Bad rule h.0 refl h.1
response_says asked m fields (Ok other) n h = absurd h

trailers_says : (m : Message) (fields : List Field) (x : Result Section Malformed) (n : Message) → TrailersCome m fields x n → Says (λ rule. section_breaks section.Trailers fields rule) taken.Trailers (with_trailers m) m x n
trailers_says m fields (Ok found.Trailers) n h = Good h.0 refl h.1
trailers_says m fields (Err rule) n h = Bad rule h.0 refl h.1
trailers_says m fields (Ok other) n h = absurd h

head_same : (r : Role) (m : Message) (fields : List Field) (x y : Result Section Malformed) (n k : Message) → HeadComes r m fields x n → HeadComes r m fields y k → Alike (taken_of x) (taken_of y) n k
head_same (role.Request extended) m fields x y n k a b = says_same _ _ _ m x y n k (request_says extended m fields x n a) (request_says extended m fields y k b)
head_same (role.Response asked) m fields x y n k a b = says_same _ _ _ m x y n k (response_says asked m fields x n a) (response_says asked m fields y k b)

pub section_same : (s : Stage) (m : Message) (fields : List Field) (x y : Result Section Malformed) (n k : Message) → SectionComes s m fields x n → SectionComes s m fields y k → Alike (taken_of x) (taken_of y) n k
section_same stage.Head m fields x y n k a b = head_same m.role m fields x y n k a b
section_same stage.Body m fields x y n k a b = says_same _ _ _ m x y n k (trailers_says m fields x n a) (trailers_says m fields y k b)
section_same stage.End m fields x y n k a b = says_same _ _ _ m x y n k (trailers_says m fields x n a) (trailers_says m fields y k b)
