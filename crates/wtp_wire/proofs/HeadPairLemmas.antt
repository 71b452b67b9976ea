-- The two numbers at the start of bytes, and what they say of a frame and of a capsule.
use Rattle.std.proofs.Common.{◌≡◌, ◌≢◌, ℕ, ◌-◌, ◌<◌, ◌≤◌, ◌↔◌, List, length, drop, Option, Some, None, refl, sym, ap, ◌∙◌, arith, inl, inr, length-drop}
use Rattle.std.proofs.lemmas.Bool.{cases_lt}
use Rattle.wtp_core.specs.Varint.{number_at}
use Rattle.wtp_core.specs.VarintLenNeeded.{varint_len_needed}
use Rattle.wtp_core.proofs.NeedLemmas.{number_at-cut, number_at-full}
use Rattle.wtp_wire.specs.declared.capsule.reading.CapsuleAnnouncement.TheVariants as head-is
use Rattle.wtp_wire.specs.Capsule.{capsule_kind_of}
use Rattle.wtp_wire.specs.CapsuleSteps.{head_says, length_says}
use Rattle.wtp_wire.specs.FramePrefix.{announcement_of, head_at}
use Rattle.wtp_wire.specs.FrameNeed.{frame_need, frame_need_is, frame_need_least}
use Rattle.wtp_wire.specs.Kind.{kind_of}
use Rattle.wtp_wire.specs.Settings.{pair_at}
use Rattle.wtp_wire.proofs.FrontLemmas.{found, head_at-numbers}
use Rattle.wtp_wire.proofs.PairLemmas.{pair_at-some, pair_at-no_number, pair_at-no_value}
use Rattle.wtp_wire.proofs.CapsuleReadingLemmas.{two_say}

-- the two numbers of a pair
pub record TwoAt (bytes : List ℕ) (n v : ℕ) (rest : List ℕ) : Type 0 where
  pub mid : List ℕ
  pub first : number_at bytes ≡ Some (n, mid)
  pub second : number_at mid ≡ Some (v, rest)

not_none : (x : (ℕ × ℕ) × List ℕ) (o : Option ((ℕ × ℕ) × List ℕ)) → o ≡ None → o ≡ Some x → ⊥
not_none x o d e = cc

some_pair : (x y : (ℕ × ℕ) × List ℕ) → Some x ≡ Some y → x ≡ y
some_pair x y e = cc

two_of : (bytes mid more : List ℕ) (n v : ℕ) → number_at bytes ≡ Some (n, mid) → number_at mid ≡ Some (v, more) → TwoAt bytes n v more
two_of bytes mid more n v first second = record { mid = mid; first = first; second = second }

pub two_at : (bytes rest : List ℕ) (n v : ℕ) → pair_at bytes ≡ Some ((n, v), rest) → TwoAt bytes n v rest
two_at bytes rest n v e = elim (found (number_at bytes)) [
  | inl none ↦ absurd (not_none ((n, v), rest) (pair_at bytes) (pair_at-no_number bytes none) e)
  | inr ((i, mid), first) ↦ elim (found (number_at mid)) [
    | inl none ↦ absurd (not_none ((n, v), rest) (pair_at bytes) (pair_at-no_value bytes mid i first none) e)
    | inr ((w, more), second) ↦
        let same = some_pair ((i, w), more) ((n, v), rest) (sym (pair_at-some bytes mid more i w first second) ∙ e) in
        rw (← ap (λ (x : (ℕ × ℕ) × List ℕ). x.0.0) same, ← ap (λ (x : (ℕ × ℕ) × List ℕ). x.0.1) same, ← ap (λ (x : (ℕ × ℕ) × List ℕ). x.1) same) (two_of bytes mid more i w first second)
  ]
]

-- ---- a frame

pub head_at-pair : (bytes rest : List ℕ) (n v : ℕ) → pair_at bytes ≡ Some ((n, v), rest) → head_at bytes ≡ Some (announcement_of (kind_of n) v, rest)
head_at-pair bytes rest n v e = let t = two_at bytes rest n v e in head_at-numbers bytes t.mid rest n v t.first t.second

head_at-one : (bytes mid : List ℕ) (n : ℕ) → number_at bytes ≡ Some (n, mid) → number_at mid ≡ None → head_at bytes ≡ None
unfolding head_at
head_at-one bytes mid n e f = rw (e, f) refl

head_at-none : (bytes : List ℕ) → number_at bytes ≡ None → head_at bytes ≡ None
unfolding head_at
head_at-none bytes e = rw e refl

pub head_at-no_pair : (bytes : List ℕ) → pair_at bytes ≡ None → head_at bytes ≡ None
head_at-no_pair bytes e = elim (found (number_at bytes)) [
  | inl none ↦ head_at-none bytes none
  | inr ((n, mid), first) ↦ elim (found (number_at mid)) [
    | inl none ↦ head_at-one bytes mid n first none
    | inr ((v, rest), second) ↦ absurd (not_none ((n, v), rest) (pair_at bytes) e (pair_at-some bytes mid rest n v first second))
  ]
]

pub ruleset head_steps = (head_at-pair, head_at-no_pair)

-- ---- a capsule

pub says-pair : (bytes rest : List ℕ) (n v : ℕ) → pair_at bytes ≡ Some ((n, v), rest) → head_says bytes ≡ length_says (capsule_kind_of n) v
says-pair bytes rest n v e = let t = two_at bytes rest n v e in two_say bytes t.mid rest n v t.first t.second

says_one : (bytes mid : List ℕ) (n : ℕ) → number_at bytes ≡ Some (n, mid) → number_at mid ≡ None → head_says bytes ≡ head-is.Unfinished
unfolding head_says
says_one bytes mid n e f = rw (e, f) refl

says_none : (bytes : List ℕ) → number_at bytes ≡ None → head_says bytes ≡ head-is.Unfinished
unfolding head_says
says_none bytes e = rw e refl

pub says-no_pair : (bytes : List ℕ) → pair_at bytes ≡ None → head_says bytes ≡ head-is.Unfinished
says-no_pair bytes e = elim (found (number_at bytes)) [
  | inl none ↦ says_none bytes none
  | inr ((n, mid), first) ↦ elim (found (number_at mid)) [
    | inl none ↦ says_one bytes mid n first none
    | inr ((v, rest), second) ↦ absurd (not_none ((n, v), rest) (pair_at bytes) e (pair_at-some bytes mid rest n v first second))
  ]
]

pub ruleset capsule_steps = (says-pair, says-no_pair)

-- ---- how many bytes are missing

pub pair_at-part : (h : List ℕ) → length h < frame_need h → pair_at h ≡ None
pair_at-part h l = elim (cases_lt (length h) (varint_len_needed h)) [
  | inl part ↦ pair_at-no_number h (number_at-cut h part)
  | inr full ↦
      let r = drop (varint_len_needed h) h in
      let one = number_at-full h full in
      pair_at-no_value h r one.0 one.1 (number_at-cut r (omega (arith, frame_need_is h, length-drop (varint_len_needed h) h)))
]

pub pair_at-full : (h : List ℕ) → frame_need h ≤ length h → pair_at h ≡ None → ⊥
pair_at-full h l none =
    let full : varint_len_needed h ≤ length h = omega (arith, frame_need_least h) in
    let r = drop (varint_len_needed h) h in
    let one = number_at-full h full in
    let two = number_at-full r (omega (arith, frame_need_is h, length-drop (varint_len_needed h) h)) in
    not_none ((one.0, two.0), drop (varint_len_needed r) r) (pair_at h) none (pair_at-some h r (drop (varint_len_needed r) r) one.0 two.0 one.1 two.1)

pub complete_pair : (h : List ℕ) (n : ℕ) → n ≡ frame_need h - length h → (n ≡ 0) ↔ (pair_at h ≢ None)
complete_pair h n e = (
  λ zero. pair_at-full h (omega arith),
  λ some. elim (cases_lt (length h) (frame_need h)) [ inl part ↦ absurd (some (pair_at-part h part)) | inr full ↦ omega arith ],
)
