-- The size of a stream header, as far as its first bytes determine it.
use Rattle.std.proofs.Common.{◌≡◌, ℕ, ◌+◌, ◌≤◌, List, ◌++◌, Bool, true, false, if◌then◌else◌, Option, Some, None, refl, arith}
use Rattle.wtp_core.specs.Varint.{number_at}
use Rattle.wtp_core.specs.VarintLenNeeded.{varint_len_needed, varint_need_range, varint_need_grows}
use Rattle.wtp_core.proofs.EncodingLemmas.{number_at-more}
use Rattle.wtp_wire.specs.declared.stream_header.StreamKind.{StreamKind}
use Rattle.wtp_wire.specs.StreamKind.{has_session, stream_kind_of}

-- the minimum number of bytes after a type of this kind, or after an unknown type
abbrev pub second_need : Option StreamKind → List ℕ → ℕ
second_need None rest = 0
second_need (Some kind) rest = if has_session kind then varint_len_needed rest else 0

-- the minimum number of bytes after the type, or 0 if the type is incomplete
abbrev pub need_after : Option (ℕ × List ℕ) → ℕ
need_after None = 0
need_after (Some x) = second_need (stream_kind_of x.0) x.1

-- the minimum size of a header that starts with these bytes
unfoldable pub header_need : List ℕ → ℕ
header_need bytes = varint_len_needed bytes + need_after (number_at bytes)

-- ---- facts for readers that continue from these bytes

pub header_need_is : (h : List ℕ) → header_need h ≡ varint_len_needed h + need_after (number_at h)
unfolding header_need
header_need_is h = refl

session_need_most : (b : Bool) (r : List ℕ) → (if b then varint_len_needed r else 0) ≤ 8
session_need_most true r = (varint_need_range r).1
session_need_most false r = omega arith

second_need_most : (k : Option StreamKind) (r : List ℕ) → second_need k r ≤ 8
second_need_most None r = omega arith
second_need_most (Some kind) r = session_need_most (has_session kind) r

session_need_grows :
    (b : Bool) (r t : List ℕ)
    → (if b then varint_len_needed r else 0) ≤ (if b then varint_len_needed (r ++ t) else 0)
session_need_grows true r t = varint_need_grows r t
session_need_grows false r t = omega arith

second_need_grows :
    (k : Option StreamKind) (r t : List ℕ) → second_need k r ≤ second_need k (r ++ t)
second_need_grows None r t = omega arith
second_need_grows (Some kind) r t = session_need_grows (has_session kind) r t

need_after_most : (o : Option (ℕ × List ℕ)) → need_after o ≤ 8
need_after_most None = omega arith
need_after_most (Some x) = second_need_most (stream_kind_of x.0) x.1

pub header_need_most : (h : List ℕ) → header_need h ≤ 16
header_need_most h =
    omega (arith, header_need_is h, (varint_need_range h).1, need_after_most (number_at h))

need_after_grows :
    (o : Option (ℕ × List ℕ)) (h t : List ℕ) → number_at h ≡ o
    → need_after o ≤ need_after (number_at (h ++ t))
need_after_grows None h t e = omega arith
need_after_grows (Some x) h t e =
    rw (number_at-more x.0 h x.1 t e) (second_need_grows (stream_kind_of x.0) x.1 t)

pub header_need_grows : (h t : List ℕ) → header_need h ≤ header_need (h ++ t)
header_need_grows h t =
    omega (
      arith,
      header_need_is h,
      header_need_is (h ++ t),
      varint_need_grows h t,
      need_after_grows
          (number_at h) h t refl,
    )
