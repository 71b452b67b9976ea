-- Parameters that are read are of the grammar.
use Rattle.std.proofs.Common.{◌≡◌, ◌==◌, ℕ, zero, suc, ◌≤◌, ◌<◌, Bool, true, false, not, List, [], ◌∷◌, ◌++◌, length, Option, Some, None, refl, sym, ap, subst, ◌∙◌, arith, eqb-true}
use Rattle.std.proofs.lemmas.Bool.{and_from}
use Rattle.std.proofs.lemmas.Option.{none-some}
use Rattle.std.specs.List.{list_all}
use Rattle.wtp_subprotocols.specs.declared.strings.State.{State}
use Rattle.wtp_subprotocols.specs.declared.strings.State.TheVariants.{Closed, Key, InKey, Value, InValue, Quoted, QuotedEscape, Percent, InDisplay, After}
use Rattle.wtp_subprotocols.specs.Strings.{Char, Plain, Escaped, Bare, Text, Display, Other, Parameter, is_key_start, is_key_byte, is_value_byte, is_display_byte, bare_then, parameters_then, ValidBare, ValidParameter, ValidParameters, is_space, is_escaped, is_string_byte, is_char, chars_then, strings_after}
use Rattle.wtp_subprotocols.proofs.ReadLemmas.{}

-- ---- parameters that are read are of the grammar

-- the characters of a parameter's string, and what follows its quote
pub record IsQuoted (list : Bool) (values : List (List ℕ)) (text : List ℕ) (all : List (List ℕ)) : Type 0 where
  pub chars : List Char
  pub rest : List ℕ
  pub valid : list_all is_char chars ≡ true
  pub bytes : chars_then chars (34 ∷ rest) ≡ text
  pub goes : strings_after list Closed values [] rest ≡ Some all
  pub shorter : length rest < length text

pub quoted_char : (list : Bool) (values : List (List ℕ)) (char : Char) (text whole : List ℕ) (all : List (List ℕ))
    → is_char char ≡ true → chars_then (char ∷ []) text ≡ whole → length text < length whole
    → IsQuoted list values text all → IsQuoted list values whole all
quoted_char list values (Plain b) text whole all v e l i = record {
  chars = Plain b ∷ i.chars;
  rest = i.rest;
  valid = and_from _ _ v i.valid;
  bytes = ap (λ (t : List ℕ). b ∷ t) i.bytes ∙ e;
  goes = i.goes;
  shorter = let more = i.shorter in omega (arith, more, l);
}
quoted_char list values (Escaped b) text whole all v e l i = record {
  chars = Escaped b ∷ i.chars;
  rest = i.rest;
  valid = and_from _ _ v i.valid;
  bytes = ap (λ (t : List ℕ). 92 ∷ b ∷ t) i.bytes ∙ e;
  goes = i.goes;
  shorter = let more = i.shorter in omega (arith, more, l);
}

abbrev pub QuotedUpTo : ℕ → Bool → Type 0
QuotedUpTo n list = (values : List (List ℕ)) (text : List ℕ) (all : List (List ℕ)) → length text ≤ n
    → strings_after list Quoted values [] text ≡ Some all → IsQuoted list values text all

pub escaped_quoted : (v : Bool) (n : ℕ) (list : Bool) (values : List (List ℕ)) (byte : ℕ) (rest : List ℕ) (all : List (List ℕ))
    → is_escaped byte ≡ v → QuotedUpTo n list → length rest ≤ n
    → strings_after list QuotedEscape values [] (byte ∷ rest) ≡ Some all → IsQuoted list values (92 ∷ byte ∷ rest) all
escaped_quoted true n list values byte rest all e ih few h =
    quoted_char list values (Escaped byte) rest (92 ∷ byte ∷ rest) all e refl (omega arith) (ih values rest all few (rw e at h))
escaped_quoted false n list values byte rest all e ih few h = absurd (none-some all (rw e at h))

pub after_slash : (n : ℕ) (list : Bool) (values : List (List ℕ)) (rest : List ℕ) (all : List (List ℕ)) → QuotedUpTo n list → length rest ≤ n
    → strings_after list QuotedEscape values [] rest ≡ Some all → IsQuoted list values (92 ∷ rest) all
after_slash n list values [] all ih few h = absurd (none-some all h)
after_slash n list values (byte ∷ rest) all ih few h = escaped_quoted (is_escaped byte) n list values byte rest all refl ih (omega (arith, few)) h

pub plain_quoted : (v : Bool) (n : ℕ) (list : Bool) (values : List (List ℕ)) (byte : ℕ) (rest : List ℕ) (all : List (List ℕ))
    → is_string_byte byte ≡ v → (byte == 34) ≡ false → (byte == 92) ≡ false → QuotedUpTo n list → length rest ≤ n
    → strings_after list Quoted values [] (byte ∷ rest) ≡ Some all → IsQuoted list values (byte ∷ rest) all
plain_quoted true n list values byte rest all e quote slash ih few h =
    quoted_char list values (Plain byte) rest (byte ∷ rest) all (rw (e, quote, slash) refl) refl (omega arith) (ih values rest all few (rw (quote, slash, e) at h))
plain_quoted false n list values byte rest all e quote slash ih few h = absurd (none-some all (rw (quote, slash, e) at h))

pub slash_quoted : (v : Bool) (n : ℕ) (list : Bool) (values : List (List ℕ)) (byte : ℕ) (rest : List ℕ) (all : List (List ℕ))
    → (byte == 92) ≡ v → (byte == 34) ≡ false → QuotedUpTo n list → length rest ≤ n
    → strings_after list Quoted values [] (byte ∷ rest) ≡ Some all → IsQuoted list values (byte ∷ rest) all
slash_quoted true n list values byte rest all slash quote ih few h =
    subst (λ (x : ℕ). IsQuoted list values (x ∷ rest) all) (sym (eqb-true byte 92 slash)) (after_slash n list values rest all ih few (rw (quote, slash) at h))
slash_quoted false n list values byte rest all slash quote ih few h = plain_quoted (is_string_byte byte) n list values byte rest all refl quote slash ih few h

pub end_quoted : (v : Bool) (n : ℕ) (list : Bool) (values : List (List ℕ)) (byte : ℕ) (rest : List ℕ) (all : List (List ℕ))
    → (byte == 34) ≡ v → QuotedUpTo n list → length rest ≤ n
    → strings_after list Quoted values [] (byte ∷ rest) ≡ Some all → IsQuoted list values (byte ∷ rest) all
end_quoted true n list values byte rest all quote ih few h =
    record { chars = []; rest = rest; valid = refl; bytes = ap (λ (x : ℕ). x ∷ rest) (sym (eqb-true byte 34 quote)); goes = rw quote at h; shorter = omega arith }
end_quoted false n list values byte rest all quote ih few h = slash_quoted (byte == 92) n list values byte rest all refl quote ih few h

pub quoted_found : (n : ℕ) (list : Bool) → QuotedUpTo n list
quoted_found n list values [] all few h = absurd (none-some all h)
quoted_found zero list values (byte ∷ rest) all few h = absurd (omega (arith, few))
quoted_found (suc n) list values (byte ∷ rest) all few h = end_quoted (byte == 34) n list values byte rest all refl (quoted_found n list) (omega (arith, few)) h

-- bytes before what follows a parameter
pub record IsRun (test : ℕ → Bool) (list : Bool) (state : State) (values : List (List ℕ)) (text : List ℕ) (all : List (List ℕ)) : Type 0 where
  pub run : List ℕ
  pub rest : List ℕ
  pub valid : list_all test run ≡ true
  pub bytes : run ++ rest ≡ text
  pub goes : strings_after list state values [] rest ≡ Some all
  pub shorter : length rest ≤ length text

pub with_run : (test : ℕ → Bool) (list : Bool) (state : State) (values : List (List ℕ)) (byte : ℕ) (text : List ℕ) (all : List (List ℕ))
    → test byte ≡ true → IsRun test list state values text all → IsRun test list state values (byte ∷ text) all
with_run test list state values byte text all v r =
    record { run = byte ∷ r.run; rest = r.rest; valid = and_from _ _ v r.valid; bytes = ap (λ (t : List ℕ). byte ∷ t) r.bytes; goes = r.goes; shorter = let x = r.shorter in omega (arith, x) }

pub no_run : (test : ℕ → Bool) (list : Bool) (state : State) (values : List (List ℕ)) (text : List ℕ) (all : List (List ℕ))
    → strings_after list state values [] text ≡ Some all → IsRun test list state values text all
no_run test list state values text all h = record { run = []; rest = text; valid = refl; bytes = refl; goes = h; shorter = omega arith }

pub value_by : (v list : Bool) (values : List (List ℕ)) (byte : ℕ) (rest : List ℕ) (all : List (List ℕ)) → is_value_byte byte ≡ v
    → (strings_after list InValue values [] rest ≡ Some all → IsRun is_value_byte list Closed values rest all)
    → strings_after list InValue values [] (byte ∷ rest) ≡ Some all → IsRun is_value_byte list Closed values (byte ∷ rest) all
value_by true list values byte rest all e ih h = with_run is_value_byte list Closed values byte rest all e (ih (rw e at h))
value_by false list values byte rest all e ih h = no_run is_value_byte list Closed values (byte ∷ rest) all (rw e at h)

pub value_found : (list : Bool) (values : List (List ℕ)) (text : List ℕ) (all : List (List ℕ)) → strings_after list InValue values [] text ≡ Some all
    → IsRun is_value_byte list Closed values text all
value_found list values [] all h = no_run is_value_byte list Closed values [] all h
value_found list values (byte ∷ rest) all h = value_by (is_value_byte byte) list values byte rest all refl (value_found list values rest all) h

-- the value of a parameter, if it has one
pub record IsBare (list : Bool) (values : List (List ℕ)) (text : List ℕ) (all : List (List ℕ)) : Type 0 where
  pub bare : Option Bare
  pub rest : List ℕ
  pub valid : ValidBare bare
  pub bytes : bare_then bare rest ≡ text
  pub goes : strings_after list Closed values [] rest ≡ Some all
  pub shorter : length rest ≤ length text

pub other_bare : (v list : Bool) (values : List (List ℕ)) (byte : ℕ) (rest : List ℕ) (all : List (List ℕ)) → is_value_byte byte ≡ v → (byte == 34) ≡ false → (byte == 37) ≡ false
    → strings_after list Value values [] (byte ∷ rest) ≡ Some all → IsBare list values (61 ∷ byte ∷ rest) all
other_bare true list values byte rest all e quote percent h =
    let r = value_found list values rest all (rw (quote, percent, e) at h) in
    record { bare = Some (Other byte r.run); rest = r.rest; valid = (and_from _ _ e (ap not percent), r.valid); bytes = ap (λ (t : List ℕ). 61 ∷ byte ∷ t) r.bytes; goes = r.goes; shorter = let x = r.shorter in omega (arith, x) }
other_bare false list values byte rest all e quote percent h = absurd (none-some all (rw (quote, percent, e) at h))

-- the bytes of a display string, and what follows its quote
pub record IsDisplay (list : Bool) (values : List (List ℕ)) (text : List ℕ) (all : List (List ℕ)) : Type 0 where
  pub run : List ℕ
  pub rest : List ℕ
  pub valid : list_all is_display_byte run ≡ true
  pub bytes : run ++ 34 ∷ rest ≡ text
  pub goes : strings_after list Closed values [] rest ≡ Some all
  pub shorter : length rest ≤ length text

pub display_byte : (v list : Bool) (values : List (List ℕ)) (byte : ℕ) (rest : List ℕ) (all : List (List ℕ)) → is_string_byte byte ≡ v → (byte == 34) ≡ false
    → (strings_after list InDisplay values [] rest ≡ Some all → IsDisplay list values rest all)
    → strings_after list InDisplay values [] (byte ∷ rest) ≡ Some all → IsDisplay list values (byte ∷ rest) all
display_byte true list values byte rest all e quote ih h =
    let d = ih (rw (quote, e) at h) in
    record { run = byte ∷ d.run; rest = d.rest; valid = and_from _ _ (and_from _ _ e (ap not quote)) d.valid; bytes = ap (λ (t : List ℕ). byte ∷ t) d.bytes; goes = d.goes; shorter = let x = d.shorter in omega (arith, x) }
display_byte false list values byte rest all e quote ih h = absurd (none-some all (rw (quote, e) at h))

pub display_by : (v list : Bool) (values : List (List ℕ)) (byte : ℕ) (rest : List ℕ) (all : List (List ℕ)) → (byte == 34) ≡ v
    → (strings_after list InDisplay values [] rest ≡ Some all → IsDisplay list values rest all)
    → strings_after list InDisplay values [] (byte ∷ rest) ≡ Some all → IsDisplay list values (byte ∷ rest) all
display_by true list values byte rest all quote ih h =
    record { run = []; rest = rest; valid = refl; bytes = ap (λ (x : ℕ). x ∷ rest) (sym (eqb-true byte 34 quote)); goes = rw quote at h; shorter = omega arith }
display_by false list values byte rest all quote ih h = display_byte (is_string_byte byte) list values byte rest all refl quote ih h

pub display_found : (list : Bool) (values : List (List ℕ)) (text : List ℕ) (all : List (List ℕ)) → strings_after list InDisplay values [] text ≡ Some all → IsDisplay list values text all
display_found list values [] all h = absurd (none-some all h)
display_found list values (byte ∷ rest) all h = display_by (byte == 34) list values byte rest all refl (display_found list values rest all) h

pub display_bare : (v list : Bool) (values : List (List ℕ)) (byte : ℕ) (rest : List ℕ) (all : List (List ℕ)) → (byte == 34) ≡ v
    → strings_after list Percent values [] (byte ∷ rest) ≡ Some all → IsBare list values (61 ∷ 37 ∷ byte ∷ rest) all
display_bare true list values byte rest all quote h =
    let d = display_found list values rest all (rw quote at h) in
    record {
      bare = Some (Display d.run);
      rest = d.rest;
      valid = d.valid;
      bytes = ap (λ (t : List ℕ). 61 ∷ 37 ∷ 34 ∷ t) d.bytes ∙ ap (λ (x : ℕ). 61 ∷ 37 ∷ x ∷ rest) (sym (eqb-true byte 34 quote));
      goes = d.goes;
      shorter = let x = d.shorter in omega (arith, x);
    }
display_bare false list values byte rest all quote h = absurd (none-some all (rw quote at h))

pub after_percent : (list : Bool) (values : List (List ℕ)) (rest : List ℕ) (all : List (List ℕ))
    → strings_after list Percent values [] rest ≡ Some all → IsBare list values (61 ∷ 37 ∷ rest) all
after_percent list values [] all h = absurd (none-some all h)
after_percent list values (byte ∷ rest) all h = display_bare (byte == 34) list values byte rest all refl h

pub percent_bare : (v list : Bool) (values : List (List ℕ)) (byte : ℕ) (rest : List ℕ) (all : List (List ℕ)) → (byte == 37) ≡ v → (byte == 34) ≡ false
    → strings_after list Value values [] (byte ∷ rest) ≡ Some all → IsBare list values (61 ∷ byte ∷ rest) all
percent_bare true list values byte rest all percent quote h =
    subst (λ (x : ℕ). IsBare list values (61 ∷ x ∷ rest) all) (sym (eqb-true byte 37 percent)) (after_percent list values rest all (rw (quote, percent) at h))
percent_bare false list values byte rest all percent quote h = other_bare (is_value_byte byte) list values byte rest all refl quote percent h

pub text_bare : (v list : Bool) (values : List (List ℕ)) (byte : ℕ) (rest : List ℕ) (all : List (List ℕ)) → (byte == 34) ≡ v
    → strings_after list Value values [] (byte ∷ rest) ≡ Some all → IsBare list values (61 ∷ byte ∷ rest) all
text_bare true list values byte rest all quote h =
    let q = quoted_found (length rest) list values rest all (omega arith) (rw quote at h) in
    record {
      bare = Some (Text q.chars);
      rest = q.rest;
      valid = q.valid;
      bytes = ap (λ (t : List ℕ). 61 ∷ 34 ∷ t) q.bytes ∙ ap (λ (x : ℕ). 61 ∷ x ∷ rest) (sym (eqb-true byte 34 quote));
      goes = q.goes;
      shorter = let x = q.shorter in omega (arith, x);
    }
text_bare false list values byte rest all quote h = percent_bare (byte == 37) list values byte rest all refl quote h

pub after_equals : (list : Bool) (values : List (List ℕ)) (rest : List ℕ) (all : List (List ℕ))
    → strings_after list Value values [] rest ≡ Some all → IsBare list values (61 ∷ rest) all
after_equals list values [] all h = absurd (none-some all h)
after_equals list values (byte ∷ rest) all h = text_bare (byte == 34) list values byte rest all refl h

-- the rest of a key, and the value
pub record IsKey (list : Bool) (values : List (List ℕ)) (text : List ℕ) (all : List (List ℕ)) : Type 0 where
  pub key : List ℕ
  pub bare : Option Bare
  pub rest : List ℕ
  pub valid : list_all is_key_byte key ≡ true
  pub valid_bare : ValidBare bare
  pub bytes : key ++ bare_then bare rest ≡ text
  pub goes : strings_after list Closed values [] rest ≡ Some all
  pub shorter : length rest ≤ length text

pub equals_key : (v list : Bool) (values : List (List ℕ)) (byte : ℕ) (rest : List ℕ) (all : List (List ℕ)) → (byte == 61) ≡ v → is_key_byte byte ≡ false
    → strings_after list InKey values [] (byte ∷ rest) ≡ Some all → IsKey list values (byte ∷ rest) all
equals_key true list values byte rest all e none h =
    let b = after_equals list values rest all (rw (none, e) at h) in
    record { key = []; bare = b.bare; rest = b.rest; valid = refl; valid_bare = b.valid; bytes = b.bytes ∙ ap (λ (x : ℕ). x ∷ rest) (sym (eqb-true byte 61 e)); goes = b.goes; shorter = b.shorter }
equals_key false list values byte rest all e none h =
    record { key = []; bare = None; rest = byte ∷ rest; valid = refl; valid_bare = tt; bytes = refl; goes = rw (none, e) at h; shorter = omega arith }

pub key_by : (v list : Bool) (values : List (List ℕ)) (byte : ℕ) (rest : List ℕ) (all : List (List ℕ)) → is_key_byte byte ≡ v
    → (strings_after list InKey values [] rest ≡ Some all → IsKey list values rest all)
    → strings_after list InKey values [] (byte ∷ rest) ≡ Some all → IsKey list values (byte ∷ rest) all
key_by true list values byte rest all e ih h =
    let k = ih (rw e at h) in
    record { key = byte ∷ k.key; bare = k.bare; rest = k.rest; valid = and_from _ _ e k.valid; valid_bare = k.valid_bare; bytes = ap (λ (t : List ℕ). byte ∷ t) k.bytes; goes = k.goes; shorter = let x = k.shorter in omega (arith, x) }
key_by false list values byte rest all e ih h = equals_key (byte == 61) list values byte rest all refl e h

pub key_found : (list : Bool) (values : List (List ℕ)) (text : List ℕ) (all : List (List ℕ)) → strings_after list InKey values [] text ≡ Some all → IsKey list values text all
key_found list values [] all h = record { key = []; bare = None; rest = []; valid = refl; valid_bare = tt; bytes = refl; goes = h; shorter = omega arith }
key_found list values (byte ∷ rest) all h = key_by (is_key_byte byte) list values byte rest all refl (key_found list values rest all) h

-- a parameter, after its semicolon
pub record IsParameter (list : Bool) (values : List (List ℕ)) (text : List ℕ) (all : List (List ℕ)) : Type 0 where
  pub parameter : Parameter
  pub rest : List ℕ
  pub valid : ValidParameter parameter
  pub bytes : parameter.spaces ++ parameter.first ∷ (parameter.key ++ bare_then parameter.bare rest) ≡ text
  pub goes : strings_after list Closed values [] rest ≡ Some all
  pub shorter : length rest ≤ length text

pub space_parameter : (v list : Bool) (values : List (List ℕ)) (byte : ℕ) (rest : List ℕ) (all : List (List ℕ)) → is_space byte ≡ v → is_key_start byte ≡ false
    → (strings_after list Key values [] rest ≡ Some all → IsParameter list values rest all)
    → strings_after list Key values [] (byte ∷ rest) ≡ Some all → IsParameter list values (byte ∷ rest) all
space_parameter true list values byte rest all e none ih h =
    let p = ih (rw (none, e) at h) in
    record {
      parameter = record { spaces = byte ∷ p.parameter.spaces; first = p.parameter.first; key = p.parameter.key; bare = p.parameter.bare };
      rest = p.rest;
      valid = record { spaces = and_from _ _ e p.valid.spaces; first = p.valid.first; key = p.valid.key; bare = p.valid.bare };
      bytes = ap (λ (t : List ℕ). byte ∷ t) p.bytes;
      goes = p.goes;
      shorter = let x = p.shorter in omega (arith, x);
    }
space_parameter false list values byte rest all e none ih h = absurd (none-some all (rw (none, e) at h))

pub first_parameter : (v list : Bool) (values : List (List ℕ)) (byte : ℕ) (rest : List ℕ) (all : List (List ℕ)) → is_key_start byte ≡ v
    → (strings_after list Key values [] rest ≡ Some all → IsParameter list values rest all)
    → strings_after list Key values [] (byte ∷ rest) ≡ Some all → IsParameter list values (byte ∷ rest) all
first_parameter true list values byte rest all e ih h =
    let k = key_found list values rest all (rw e at h) in
    record {
      parameter = record { spaces = []; first = byte; key = k.key; bare = k.bare };
      rest = k.rest;
      valid = record { spaces = refl; first = e; key = k.valid; bare = k.valid_bare };
      bytes = ap (λ (t : List ℕ). byte ∷ t) k.bytes;
      goes = k.goes;
      shorter = let x = k.shorter in omega (arith, x);
    }
first_parameter false list values byte rest all e ih h = space_parameter (is_space byte) list values byte rest all refl e ih h

pub parameter_found : (list : Bool) (values : List (List ℕ)) (text : List ℕ) (all : List (List ℕ)) → strings_after list Key values [] text ≡ Some all → IsParameter list values text all
parameter_found list values [] all h = absurd (none-some all h)
parameter_found list values (byte ∷ rest) all h = first_parameter (is_key_start byte) list values byte rest all refl (parameter_found list values rest all) h

-- all parameters of a string
pub record IsParameters (list : Bool) (values : List (List ℕ)) (text : List ℕ) (all : List (List ℕ)) : Type 0 where
  pub parameters : List Parameter
  pub rest : List ℕ
  pub valid : ValidParameters parameters
  pub bytes : parameters_then parameters rest ≡ text
  pub goes : strings_after list After values [] rest ≡ Some all
  pub shorter : length rest ≤ length text

abbrev pub ParametersUpTo : ℕ → Bool → Type 0
ParametersUpTo n list = (values : List (List ℕ)) (text : List ℕ) (all : List (List ℕ)) → length text ≤ n
    → strings_after list Closed values [] text ≡ Some all → IsParameters list values text all

pub parameter_bytes : (p : Parameter) (rest more text : List ℕ) → more ≡ rest → p.spaces ++ p.first ∷ (p.key ++ bare_then p.bare rest) ≡ text
    → 59 ∷ (p.spaces ++ p.first ∷ (p.key ++ bare_then p.bare more)) ≡ 59 ∷ text
parameter_bytes p rest more text e h = rw e (ap (λ (t : List ℕ). 59 ∷ t) h)

pub after_semicolon : (n : ℕ) (list : Bool) (values : List (List ℕ)) (rest : List ℕ) (all : List (List ℕ)) → ParametersUpTo n list → length rest ≤ n
    → strings_after list Key values [] rest ≡ Some all → IsParameters list values (59 ∷ rest) all
after_semicolon n list values rest all ih few h =
    let p = parameter_found list values rest all h in
    let more = ih values p.rest all (let x = p.shorter in omega (arith, x, few)) p.goes in
    record {
      parameters = p.parameter ∷ more.parameters;
      rest = more.rest;
      valid = (p.valid, more.valid);
      bytes = parameter_bytes p.parameter p.rest (parameters_then more.parameters more.rest) rest more.bytes p.bytes;
      goes = more.goes;
      shorter = let x = p.shorter in let y = more.shorter in omega (arith, x, y);
    }

pub semicolon_by : (v : Bool) (n : ℕ) (list : Bool) (values : List (List ℕ)) (byte : ℕ) (rest : List ℕ) (all : List (List ℕ)) → (byte == 59) ≡ v
    → ParametersUpTo n list → length rest ≤ n → strings_after list Closed values [] (byte ∷ rest) ≡ Some all → IsParameters list values (byte ∷ rest) all
semicolon_by true n list values byte rest all e ih few h =
    subst (λ (x : ℕ). IsParameters list values (x ∷ rest) all) (sym (eqb-true byte 59 e)) (after_semicolon n list values rest all ih few (rw e at h))
semicolon_by false n list values byte rest all e ih few h =
    record { parameters = []; rest = byte ∷ rest; valid = tt; bytes = refl; goes = rw e at h; shorter = omega arith }

pub parameters_found : (n : ℕ) (list : Bool) → ParametersUpTo n list
parameters_found n list values [] all few h = record { parameters = []; rest = []; valid = tt; bytes = refl; goes = h; shorter = omega arith }
parameters_found zero list values (byte ∷ rest) all few h = absurd (omega (arith, few))
parameters_found (suc n) list values (byte ∷ rest) all few h = semicolon_by (byte == 59) n list values byte rest all refl (parameters_found n list) (omega (arith, few)) h
