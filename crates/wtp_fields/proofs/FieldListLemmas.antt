-- Decoding field lists line by line.
use Rattle.std.proofs.Common.{◌≡◌, inl, inr, ℕ, ◌+◌, ◌-◌, ◌<◌, ◌≤◌, List, [], ◌∷◌, ◌++◌, length, refl, ◌∙◌, ap, arith, Result, Ok, Err, IsTrue}
use Rattle.std.specs.Result.{IsErrAnd}
use Rattle.std.proofs.lemmas.List.Sums.{sum_by-append}
use Rattle.wtp_qpack.specs.declared.qpack.DecodingError.{DecodingError}
use Rattle.wtp_qpack.specs.Field.{Field}
use Rattle.wtp_qpack.specs.FieldSection.{after_prefix}
use Rattle.wtp_qpack.specs.FieldLines.{octet_line_at, AreOctetLines, is_coded_line}
use Rattle.wtp_qpack.specs.declared.qpack.DecodingError.TheVariants as decoding
use Rattle.wtp_qpack.proofs.SectionReading.{prefix_not_memory}
use Rattle.wtp_fields.specs.declared.fields.FieldSectionError.{FieldSectionError}
use Rattle.wtp_fields.specs.FieldCodes.{section_error}
use Rattle.wtp_fields.specs.FieldList.{field_size, list_size, Reaches, HasFaultyLine, ExceedsLimit, NeedsMemory, DecodesTo}

-- these fields were decoded, rest follows, and left is left of the limit
pub record IsRead (limit : ℕ) (section : List ℕ) (fields : List Field) (rest : List ℕ) (left : ℕ) : Type 0 where
  pub start : List ℕ
  pub prefix : after_prefix section ≡ Ok start
  pub are : AreOctetLines start fields rest
  pub sum : list_size fields + left ≡ limit

pub none_read : (limit : ℕ) (section start : List ℕ) → after_prefix section ≡ Ok start → IsRead limit section [] start limit
none_read limit section start e = record { start = start; prefix = e; are = refl; sum = omega arith }

pub reached : (limit : ℕ) (section : List ℕ) (fields : List Field) (rest : List ℕ) (left : ℕ) → IsRead limit section fields rest left → Reaches limit section fields rest
reached limit section fields rest left is = record { start = is.start; prefix = is.prefix; are = is.are; fits = let sum = is.sum in omega (arith, sum) }

pub octets_push : (bytes : List ℕ) (fields : List Field) (rest behind : List ℕ) (field : Field) → AreOctetLines bytes fields rest → octet_line_at rest ≡ Ok (field, behind) → AreOctetLines bytes (fields ++ field ∷ []) behind
octets_push bytes [] rest behind field e line = (behind, ap octet_line_at e ∙ line, refl)
octets_push bytes (first ∷ fields) rest behind field (others, e, more) line = (others, e, octets_push others fields rest behind field more line)

pub size_push : (fields : List Field) (field : Field) → list_size (fields ++ field ∷ []) ≡ list_size fields + field_size field
size_push fields field = let one : list_size (field ∷ []) ≡ field_size field = omega arith in omega (arith, sum_by-append field_size fields (field ∷ []), one)

pub one_read : (limit : ℕ) (section : List ℕ) (fields : List Field) (rest : List ℕ) (left : ℕ) (field : Field) (behind : List ℕ) → IsRead limit section fields rest left
    → octet_line_at rest ≡ Ok (field, behind) → field_size field ≤ left → IsRead limit section (fields ++ field ∷ []) behind (left - field_size field)
one_read limit section fields rest left field behind is line fits = record {
  start = is.start;
  prefix = is.prefix;
  are = octets_push is.start fields rest behind field is.are line;
  sum = let sum = is.sum in omega (arith, sum, fits, size_push fields field);
}

pub fault_read : (limit : ℕ) (section : List ℕ) (fields : List Field) (rest : List ℕ) (left : ℕ) (fault : DecodingError) → IsRead limit section fields rest left → 0 < length rest
    → octet_line_at rest ≡ Err fault → HasFaultyLine limit section fault
fault_read limit section fields rest left fault is some e = record { fields = fields; rest = rest; reached = reached limit section fields rest left is; some = some; is = e }

pub exceeded : (limit : ℕ) (section : List ℕ) (fields : List Field) (rest : List ℕ) (left : ℕ) (field : Field) (behind : List ℕ) → IsRead limit section fields rest left
    → octet_line_at rest ≡ Ok (field, behind) → left < field_size field → ExceedsLimit limit section
exceeded limit section fields rest left field behind is line more = record {
  fields = fields;
  rest = rest;
  field = field;
  behind = behind;
  reached = reached limit section fields rest left is;
  is = line;
  exceeds = let sum = is.sum in omega (arith, sum, more);
}

pub coded_refused : (limit : ℕ) (section : List ℕ) (fields : List Field) (rest : List ℕ) (left : ℕ) → IsRead limit section fields rest left → IsTrue (is_coded_line rest) → NeedsMemory limit section
coded_refused limit section fields rest left is coded = record { fields = fields; rest = rest; reached = reached limit section fields rest left is; needs = inl coded }

pub copy_refused : (limit : ℕ) (section : List ℕ) (fields : List Field) (rest : List ℕ) (left : ℕ) (field : Field) (behind : List ℕ) → IsRead limit section fields rest left
    → octet_line_at rest ≡ Ok (field, behind) → field_size field ≤ left → NeedsMemory limit section
copy_refused limit section fields rest left field behind is line fits = record {
  fields = fields;
  rest = rest;
  reached = reached limit section fields rest left is;
  needs = inr (record { field = field; behind = behind; is = line; fits = let sum = is.sum in omega (arith, sum, fits) });
}

-- an error of the prefix, which is not an allocation failure
pub prefix_fault : (limit : ℕ) (section : List ℕ) (fault : DecodingError) (r : Result (List Field) FieldSectionError) → IsErrAnd r (λ e. e ≡ section_error fault)
    → after_prefix section ≡ Err fault → DecodesTo limit section r
prefix_fault limit section fault (Ok fields) is e = absurd is
prefix_fault limit section decoding.Memory (Err x) is e = absurd (prefix_not_memory section e)
prefix_fault limit section decoding.UnexpectedFin (Err x) is e = rw is (inl e)
prefix_fault limit section decoding.IntegerOverflow (Err x) is e = rw is (inl e)
prefix_fault limit section decoding.InvalidString (Err x) is e = rw is (inl e)
prefix_fault limit section decoding.DynamicNotSupported (Err x) is e = rw is (inl e)
prefix_fault limit section decoding.IndexNotfound (Err x) is e = rw is (inl e)
