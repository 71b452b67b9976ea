-- A section that may not be sent has one reason, and one that may be sent has none.
use Rattle.std.proofs.Common.{◌≡◌, inl, inr, ℕ, ◌<◌, nat_lt, Bool, true, false, List, IsOk, Result, Ok, Err, refl, sym, ap, subst, ◌∙◌, arith}
use Rattle.wtp_qpack.specs.Field.{Field}
use Rattle.wtp_fields.specs.FieldList.{list_size}
use Rattle.wtp_messages.specs.declared.malformed.Malformed.{Malformed}
use Rattle.wtp_messages.specs.declared.message.Message.{Message}
use Rattle.wtp_messages.specs.declared.message.Role.{Role}
use Rattle.wtp_messages.specs.declared.message.Role.TheVariants as role
use Rattle.wtp_messages.specs.declared.message.Section.{Section}
use Rattle.wtp_messages.specs.declared.message.Section.TheVariants as found
use Rattle.wtp_messages.specs.declared.message.Stage.{Stage}
use Rattle.wtp_messages.specs.declared.message.Stage.TheVariants as stage
use Rattle.wtp_messages.specs.declared.response.Asked.{Asked}
use Rattle.wtp_messages.specs.Message.{is_head_stage, end_of, RequestComes, ResponseComes, TrailersCome, HeadComes, SectionComes}
use Rattle.wtp_sending.specs.declared.error.SendError.{SendError}
use Rattle.wtp_sending.specs.declared.error.SendError.TheVariants as error
use Rattle.wtp_sending.specs.declared.message.Place.{Place}
use Rattle.wtp_sending.specs.declared.message.Place.TheVariants.{Content}
use Rattle.wtp_sending.specs.declared.message.Sending.{Sending}
use Rattle.wtp_sending.specs.declared.peer.Peer.{Peer}
use Rattle.wtp_sending.specs.Message.{is_head, is_at_head, is_content, interims_of, is_unsupported, has_length_at, has_wrong_length, IsAllowed, MayBeHead, IsSection, Breaks, BreaksHead, Hinders, IsHindered, FitsHead, RefusesHead, FitsTrailers, MayBeTrailers, BreaksTrailers, RefusesTail, AreSameReason}
use Rattle.wtp_sending.proofs.TakenLemmas.{both, same_status, section_agrees}

-- ---- one section

-- sections of one kind, with the same status
abbrev IsLike : Section → Section → Type 0
IsLike (found.Request a) (found.Request b) = Unit {0}
IsLike (found.Interim a) (found.Interim b) = a.status ≡ b.status
IsLike (found.Response a) (found.Response b) = a.status ≡ b.status
IsLike found.Trailers found.Trailers = Unit {0}
IsLike a b = ⊥

request_like : (extended : Bool) (m n o : Message) (fields : List Field) (a b : Section) → RequestComes extended m fields (Ok a) n → RequestComes extended m fields (Ok b) o → IsLike a b
request_like extended m n o fields (found.Request a) (found.Request b) h k = tt
request_like extended m n o fields (found.Request a) (found.Interim b) h k = absurd k
request_like extended m n o fields (found.Request a) (found.Response b) h k = absurd k
request_like extended m n o fields (found.Request a) found.Trailers h k = absurd k
request_like extended m n o fields (found.Interim a) b h k = absurd h
request_like extended m n o fields (found.Response a) b h k = absurd h
request_like extended m n o fields found.Trailers b h k = absurd h

response_like : (kind : Asked) (m n o : Message) (fields : List Field) (a b : Section) → ResponseComes kind m fields (Ok a) n → ResponseComes kind m fields (Ok b) o → IsLike a b
response_like kind m n o fields (found.Request a) b h k = absurd h
response_like kind m n o fields (found.Interim a) (found.Request b) h k = absurd k
response_like kind m n o fields (found.Interim a) (found.Interim b) h k = same_status kind fields b a k.0 h.0
response_like kind m n o fields (found.Interim a) (found.Response b) h k = absurd (both (nat_lt b.status 200) (ap (λ (x : ℕ). nat_lt x 200) (same_status kind fields a b h.0 k.0) ∙ h.1) k.1)
response_like kind m n o fields (found.Interim a) found.Trailers h k = absurd k
response_like kind m n o fields (found.Response a) (found.Request b) h k = absurd k
response_like kind m n o fields (found.Response a) (found.Interim b) h k = absurd (both (nat_lt a.status 200) (ap (λ (x : ℕ). nat_lt x 200) (same_status kind fields b a k.0 h.0) ∙ k.1) h.1)
response_like kind m n o fields (found.Response a) (found.Response b) h k = same_status kind fields b a k.0 h.0
response_like kind m n o fields (found.Response a) found.Trailers h k = absurd k
response_like kind m n o fields found.Trailers b h k = absurd h

trailers_like : (m n o : Message) (fields : List Field) (a b : Section) → TrailersCome m fields (Ok a) n → TrailersCome m fields (Ok b) o → IsLike a b
trailers_like m n o fields (found.Request a) b h k = absurd h
trailers_like m n o fields (found.Interim a) b h k = absurd h
trailers_like m n o fields (found.Response a) b h k = absurd h
trailers_like m n o fields found.Trailers (found.Request b) h k = absurd k
trailers_like m n o fields found.Trailers (found.Interim b) h k = absurd k
trailers_like m n o fields found.Trailers (found.Response b) h k = absurd k
trailers_like m n o fields found.Trailers found.Trailers h k = tt

head_like : (r : Role) (m n o : Message) (fields : List Field) (a b : Section) → HeadComes r m fields (Ok a) n → HeadComes r m fields (Ok b) o → IsLike a b
head_like (role.Request extended) m n o fields a b h k = request_like extended m n o fields a b h k
head_like (role.Response kind) m n o fields a b h k = response_like kind m n o fields a b h k

section_like : (st : Stage) (m n o : Message) (fields : List Field) (a b : Section) → SectionComes st m fields (Ok a) n → SectionComes st m fields (Ok b) o → IsLike a b
section_like stage.Head m n o fields a b h k = head_like m.role m n o fields a b h k
section_like stage.Body m n o fields a b h k = trailers_like m n o fields a b h k
section_like stage.End m n o fields a b h k = trailers_like m n o fields a b h k

are_like : (s : Sending) (fields : List Field) (a b : Section) → IsSection s fields a → IsSection s fields b → IsLike a b
are_like s fields a b x y = section_like s.message.stage s.message x.0 y.0 fields a b x.1 y.1

same_length : (r : Role) (fields : List Field) (a b : Section) → IsLike a b → has_wrong_length r fields a ≡ has_wrong_length r fields b
same_length r fields (found.Request a) (found.Request b) h = refl
same_length r fields (found.Request a) (found.Interim b) h = absurd h
same_length r fields (found.Request a) (found.Response b) h = absurd h
same_length r fields (found.Request a) found.Trailers h = absurd h
same_length r fields (found.Interim a) (found.Request b) h = absurd h
same_length r fields (found.Interim a) (found.Interim b) h = ap (λ (x : ℕ). has_length_at r fields x) h
same_length r fields (found.Interim a) (found.Response b) h = absurd h
same_length r fields (found.Interim a) found.Trailers h = absurd h
same_length r fields (found.Response a) (found.Request b) h = absurd h
same_length r fields (found.Response a) (found.Interim b) h = absurd h
same_length r fields (found.Response a) (found.Response b) h = ap (λ (x : ℕ). has_length_at r fields x) h
same_length r fields (found.Response a) found.Trailers h = absurd h
same_length r fields found.Trailers (found.Request b) h = absurd h
same_length r fields found.Trailers (found.Interim b) h = absurd h
same_length r fields found.Trailers (found.Response b) h = absurd h
same_length r fields found.Trailers found.Trailers h = refl

-- ---- a section that breaks no rule

no_section : {A : Type 0} (rule : Malformed) → IsOk {T = Section} {E = Malformed} (Err rule) → A
no_section rule h = absurd cc

unbroken : {A : Type 0} (s : Sending) (fields : List Field) (a : Section) (rule : Malformed) → IsSection s fields a → Breaks s fields rule → A
unbroken s fields a rule x h = no_section rule ((section_agrees s.message.stage s.message fields a x.0 (Err rule) s.message x.1 h).ok)

faultless : {A : Type 0} (s : Sending) (fields : List Field) (a : Section) (rule : Malformed) → IsSection s fields a → has_wrong_length s.role fields a ≡ false → BreaksHead s fields rule → A
faultless s fields a rule x none (inl h) = unbroken s fields a rule x h
faultless s fields a rule x none (inr (b, y, some, is)) =
    both (has_wrong_length s.role fields b) some (same_length s.role fields b a (are_like s fields b a y x) ∙ none)

-- one reason hinders a section, and none hinders one that is allowed
unlike : {A : Type 0} (peer : Peer) (k : ℕ) (fields : List Field) (a b : Section) → IsLike a b → Hinders peer k fields a error.Unsupported → Hinders peer k fields b error.TooManyInterim → A
unlike peer k fields (found.Request a) (found.Request b) l h i = absurd i
unlike peer k fields (found.Request a) (found.Interim b) l h i = absurd l
unlike peer k fields (found.Request a) (found.Response b) l h i = absurd l
unlike peer k fields (found.Request a) found.Trailers l h i = absurd l
unlike peer k fields (found.Interim a) b l h i = absurd h
unlike peer k fields (found.Response a) b l h i = absurd h
unlike peer k fields found.Trailers b l h i = absurd h

alien_allowed : {A : Type 0} (peer : Peer) (k : ℕ) (fields : List Field) (a b : Section) → IsLike a b → IsAllowed peer k fields a → Hinders peer k fields b error.Unsupported → A
alien_allowed peer k fields a (found.Interim b) l h i = absurd i
alien_allowed peer k fields a (found.Response b) l h i = absurd i
alien_allowed peer k fields a found.Trailers l h i = absurd i
alien_allowed peer k fields (found.Request a) (found.Request b) l h i = both (is_unsupported peer fields) i h
alien_allowed peer k fields (found.Interim a) (found.Request b) l h i = absurd l
alien_allowed peer k fields (found.Response a) (found.Request b) l h i = absurd l
alien_allowed peer k fields found.Trailers (found.Request b) l h i = absurd l

many_allowed : {A : Type 0} (peer : Peer) (k : ℕ) (fields : List Field) (a b : Section) → IsLike a b → IsAllowed peer k fields a → Hinders peer k fields b error.TooManyInterim → A
many_allowed peer k fields a (found.Request b) l h i = absurd i
many_allowed peer k fields a (found.Response b) l h i = absurd i
many_allowed peer k fields a found.Trailers l h i = absurd i
many_allowed peer k fields (found.Request a) (found.Interim b) l h i = absurd l
many_allowed peer k fields (found.Interim a) (found.Interim b) l h i = absurd (omega (arith, h, i))
many_allowed peer k fields (found.Response a) (found.Interim b) l h i = absurd l
many_allowed peer k fields found.Trailers (found.Interim b) l h i = absurd l

-- ---- a head

data HeadCase (s : Sending) (fields : List Field) (e : SendError) : Type 0 where
  Late : e ≡ error.Unexpected → is_at_head s ≡ false → HeadCase s fields e
  Large : e ≡ error.TooLarge → is_at_head s ≡ true → s.peer.max_section < list_size fields → HeadCase s fields e
  Broken : (rule : Malformed) → e ≡ error.Malformed rule → FitsHead s fields → BreaksHead s fields rule → HeadCase s fields e
  Alien : e ≡ error.Unsupported → FitsHead s fields → IsHindered s fields error.Unsupported → HeadCase s fields e
  Many : e ≡ error.TooManyInterim → FitsHead s fields → IsHindered s fields error.TooManyInterim → HeadCase s fields e

head_case : (s : Sending) (fields : List Field) (e : SendError) → RefusesHead s fields e → HeadCase s fields e
head_case s fields error.Unexpected h = Late refl h
head_case s fields error.DataMissing h = absurd h
head_case s fields error.DataExceeded h = absurd h
head_case s fields error.EmptyData h = absurd h
head_case s fields error.TooLarge h = Large refl h.0 h.1
head_case s fields error.TooManyInterim h = Many refl h.0 h.1
head_case s fields error.InvalidId h = absurd h
head_case s fields error.IdRises h = absurd h
head_case s fields error.Unsupported h = Alien refl h.0 h.1
head_case s fields (error.Malformed rule) h = Broken rule refl h.0 h.1
head_case s fields error.EndOfBuffer h = absurd h
head_case s fields error.Memory h = absurd h

same_as : (e f a b : SendError) → e ≡ a → f ≡ b → AreSameReason a b → AreSameReason e f
same_as e f a b p q h = subst (λ (x : SendError). AreSameReason x f) (sym p) (subst (λ (y : SendError). AreSameReason a y) (sym q) h)

-- the cases exclude each other
late_fits : {A : Type 0} (s : Sending) (fields : List Field) → is_at_head s ≡ false → FitsHead s fields → A
late_fits s fields off h = both (is_at_head s) h.0 off

large_fits : {A : Type 0} (s : Sending) (fields : List Field) → s.peer.max_section < list_size fields → FitsHead s fields → A
large_fits s fields large h = absurd (omega (arith, large, h.1))

broken_hindered : {A : Type 0} (s : Sending) (fields : List Field) (rule : Malformed) (e : SendError) → BreaksHead s fields rule → IsHindered s fields e → A
broken_hindered s fields rule e h i = faultless s fields i.0 rule i.1 i.2 h

alien_many : {A : Type 0} (s : Sending) (fields : List Field) → IsHindered s fields error.Unsupported → IsHindered s fields error.TooManyInterim → A
alien_many s fields h i = unlike s.peer (interims_of s.place) fields h.0 i.0 (are_like s fields h.0 i.0 h.1 i.1) h.3 i.3

by_cases : (s : Sending) (fields : List Field) (e f : SendError) → HeadCase s fields e → HeadCase s fields f → AreSameReason e f
by_cases s fields e f (Late p off) (Late q off2) = same_as e f error.Unexpected error.Unexpected p q refl
by_cases s fields e f (Late p off) (Large q at large) = both (is_at_head s) at off
by_cases s fields e f (Late p off) (Broken rule q fits h) = late_fits s fields off fits
by_cases s fields e f (Late p off) (Alien q fits h) = late_fits s fields off fits
by_cases s fields e f (Late p off) (Many q fits h) = late_fits s fields off fits
by_cases s fields e f (Large p at large) (Late q off) = both (is_at_head s) at off
by_cases s fields e f (Large p at large) (Large q at2 large2) = same_as e f error.TooLarge error.TooLarge p q refl
by_cases s fields e f (Large p at large) (Broken rule q fits h) = large_fits s fields large fits
by_cases s fields e f (Large p at large) (Alien q fits h) = large_fits s fields large fits
by_cases s fields e f (Large p at large) (Many q fits h) = large_fits s fields large fits
by_cases s fields e f (Broken rule p fits h) (Late q off) = late_fits s fields off fits
by_cases s fields e f (Broken rule p fits h) (Large q at large) = large_fits s fields large fits
by_cases s fields e f (Broken rule p fits h) (Broken rule2 q fits2 i) = same_as e f (error.Malformed rule) (error.Malformed rule2) p q tt
by_cases s fields e f (Broken rule p fits h) (Alien q fits2 i) = broken_hindered s fields rule error.Unsupported h i
by_cases s fields e f (Broken rule p fits h) (Many q fits2 i) = broken_hindered s fields rule error.TooManyInterim h i
by_cases s fields e f (Alien p fits h) (Late q off) = late_fits s fields off fits
by_cases s fields e f (Alien p fits h) (Large q at large) = large_fits s fields large fits
by_cases s fields e f (Alien p fits h) (Broken rule q fits2 i) = broken_hindered s fields rule error.Unsupported i h
by_cases s fields e f (Alien p fits h) (Alien q fits2 i) = same_as e f error.Unsupported error.Unsupported p q refl
by_cases s fields e f (Alien p fits h) (Many q fits2 i) = alien_many s fields h i
by_cases s fields e f (Many p fits h) (Late q off) = late_fits s fields off fits
by_cases s fields e f (Many p fits h) (Large q at large) = large_fits s fields large fits
by_cases s fields e f (Many p fits h) (Broken rule q fits2 i) = broken_hindered s fields rule error.TooManyInterim i h
by_cases s fields e f (Many p fits h) (Alien q fits2 i) = alien_many s fields i h
by_cases s fields e f (Many p fits h) (Many q fits2 i) = same_as e f error.TooManyInterim error.TooManyInterim p q refl

pub head_once : (s : Sending) (fields : List Field) (e f : SendError) → RefusesHead s fields e → RefusesHead s fields f → AreSameReason e f
head_once s fields e f h i = by_cases s fields e f (head_case s fields e h) (head_case s fields f i)

-- a section that is allowed is a head
trailers_allowed : {A : Type 0} (m n : Message) (fields : List Field) (a : Section) (peer : Peer) (k : ℕ) → TrailersCome m fields (Ok a) n → IsAllowed peer k fields a → A
trailers_allowed m n fields (found.Request a) peer k h i = absurd h
trailers_allowed m n fields (found.Interim a) peer k h i = absurd h
trailers_allowed m n fields (found.Response a) peer k h i = absurd h
trailers_allowed m n fields found.Trailers peer k h i = absurd i

allowed_at_head : (st : Stage) (m n : Message) (fields : List Field) (a : Section) (peer : Peer) (k : ℕ) → SectionComes st m fields (Ok a) n → IsAllowed peer k fields a → is_head_stage st ≡ true
allowed_at_head stage.Head m n fields a peer k h i = refl
allowed_at_head stage.Body m n fields a peer k h i = trailers_allowed m n fields a peer k h i
allowed_at_head stage.End m n fields a peer k h i = trailers_allowed m n fields a peer k h i

sent_at_head : (s : Sending) (fields : List Field) → MayBeHead s fields → is_at_head s ≡ true
sent_at_head s fields (m, place, (at, fits, head)) =
    let stage_is = allowed_at_head s.message.stage s.message m fields head.found s.peer (interims_of s.place) head.comes head.allowed in
    let place_is : is_head s.place ≡ true = ap (λ (p : Place). is_head p) at in
    rw (place_is, stage_is) refl

sent_by_case : (s : Sending) (fields : List Field) (e : SendError) → MayBeHead s fields → HeadCase s fields e → ⊥
sent_by_case s fields e may (Late p off) = both (is_at_head s) (sent_at_head s fields may) off
sent_by_case s fields e (m, place, (at, fits, head)) (Large p at2 large) = omega (arith, large, fits)
sent_by_case s fields e (m, place, (at, fits, head)) (Broken rule p fits2 h) = faultless s fields head.found rule (m, head.comes) head.no_length h
sent_by_case s fields e (m, place, (at, fits, head)) (Alien p fits2 h) = alien_allowed s.peer (interims_of s.place) fields head.found h.0 (are_like s fields head.found h.0 (m, head.comes) h.1) head.allowed h.3
sent_by_case s fields e (m, place, (at, fits, head)) (Many p fits2 h) = many_allowed s.peer (interims_of s.place) fields head.found h.0 (are_like s fields head.found h.0 (m, head.comes) h.1) head.allowed h.3

pub sent_head : (s : Sending) (fields : List Field) (e : SendError) → MayBeHead s fields → RefusesHead s fields e → ⊥
sent_head s fields e may h = sent_by_case s fields e may (head_case s fields e h)

-- ---- trailers

data TailCase (s : Sending) (fields : List Field) (e : SendError) : Type 0 where
  Late : e ≡ error.Unexpected → is_content s.place ≡ false → TailCase s fields e
  Owing : e ≡ error.DataMissing → s.place ≡ Content → 0 < s.owed → TailCase s fields e
  Large : e ≡ error.TooLarge → s.place ≡ Content → s.owed ≡ 0 → s.peer.max_section < list_size fields → TailCase s fields e
  Broken : (rule : Malformed) → e ≡ error.Malformed rule → FitsTrailers s fields → BreaksTrailers s fields rule → TailCase s fields e

tail_case : (s : Sending) (fields : List Field) (e : SendError) → RefusesTail s fields e → TailCase s fields e
tail_case s fields error.Unexpected h = Late refl h
tail_case s fields error.DataMissing h = Owing refl h.0 h.1
tail_case s fields error.DataExceeded h = absurd h
tail_case s fields error.EmptyData h = absurd h
tail_case s fields error.TooLarge h = Large refl h.0 h.1 h.2
tail_case s fields error.TooManyInterim h = absurd h
tail_case s fields error.InvalidId h = absurd h
tail_case s fields error.IdRises h = absurd h
tail_case s fields error.Unsupported h = absurd h
tail_case s fields (error.Malformed rule) h = Broken rule refl h.0 h.1
tail_case s fields error.EndOfBuffer h = absurd h
tail_case s fields error.Memory h = absurd h

late_content : {A : Type 0} (s : Sending) → is_content s.place ≡ false → s.place ≡ Content → A
late_content s off at = both (is_content s.place) (ap (λ (p : Place). is_content p) at) off

by_tails : (s : Sending) (fields : List Field) (e f : SendError) → TailCase s fields e → TailCase s fields f → AreSameReason e f
by_tails s fields e f (Late p off) (Late q off2) = same_as e f error.Unexpected error.Unexpected p q refl
by_tails s fields e f (Late p off) (Owing q at some) = late_content s off at
by_tails s fields e f (Late p off) (Large q at none large) = late_content s off at
by_tails s fields e f (Late p off) (Broken rule q fits h) = late_content s off fits.0
by_tails s fields e f (Owing p at some) (Late q off) = late_content s off at
by_tails s fields e f (Owing p at some) (Owing q at2 some2) = same_as e f error.DataMissing error.DataMissing p q refl
by_tails s fields e f (Owing p at some) (Large q at2 none large) = absurd (omega (arith, some, none))
by_tails s fields e f (Owing p at some) (Broken rule q fits h) = absurd (omega (arith, some, fits.1))
by_tails s fields e f (Large p at none large) (Late q off) = late_content s off at
by_tails s fields e f (Large p at none large) (Owing q at2 some) = absurd (omega (arith, some, none))
by_tails s fields e f (Large p at none large) (Large q at2 none2 large2) = same_as e f error.TooLarge error.TooLarge p q refl
by_tails s fields e f (Large p at none large) (Broken rule q fits h) = absurd (omega (arith, large, fits.2))
by_tails s fields e f (Broken rule p fits h) (Late q off) = late_content s off fits.0
by_tails s fields e f (Broken rule p fits h) (Owing q at some) = absurd (omega (arith, some, fits.1))
by_tails s fields e f (Broken rule p fits h) (Large q at none large) = absurd (omega (arith, large, fits.2))
by_tails s fields e f (Broken rule p fits h) (Broken rule2 q fits2 i) = same_as e f (error.Malformed rule) (error.Malformed rule2) p q tt

pub trailers_once : (s : Sending) (fields : List Field) (e f : SendError) → RefusesTail s fields e → RefusesTail s fields f → AreSameReason e f
trailers_once s fields e f h i = by_tails s fields e f (tail_case s fields e h) (tail_case s fields f i)

not_both : (o : Result (Unit {0}) Malformed) (rule : Malformed) → o ≡ Ok tt → o ≡ Err rule → ⊥
not_both o rule p q = absurd cc

sent_tail : (s : Sending) (fields : List Field) (e : SendError) → MayBeTrailers s fields → TailCase s fields e → ⊥
sent_tail s fields e (m, (fits, are)) (Late p off) = late_content s off fits.0
sent_tail s fields e (m, (fits, are)) (Owing p at some) = omega (arith, some, fits.1)
sent_tail s fields e (m, (fits, are)) (Large p at none large) = omega (arith, large, fits.2)
sent_tail s fields e (m, (fits, are)) (Broken rule p fits2 (inl h)) = not_both (end_of s.message.stage s.message.content.left) rule are.whole h
sent_tail s fields e (m, (fits, are)) (Broken rule p fits2 (inr h)) = unbroken s fields found.Trailers rule (m, are.comes) h.1

pub sent_trailers : (s : Sending) (fields : List Field) (e : SendError) → MayBeTrailers s fields → RefusesTail s fields e → ⊥
sent_trailers s fields e may h = sent_tail s fields e may (tail_case s fields e h)
