-- The keys of proposals, one after the other.
use Rattle.std.proofs.Common.{◌≡◌, ℕ, ◌<◌, inl, inr, List, [], ◌∷◌, ◌++◌, length, get_or, refl, sym, ◌∙◌, ap, subst, arith, length-append, Some}
use Rattle.std.specs.List.{slice_get}
use Rattle.std.proofs.lemmas.Bool.{cases_lt}
use Rattle.std.proofs.lemmas.Option.{slice_get_within, get_or_from_slice_get, slice_get_read}
use Rattle.std.proofs.lemmas.List.{get_or_append_left, get_or_default}
use Rattle.std.proofs.Math.Seq.{get_or-append_seam}
use Rattle.wtp_dynamic_encoder.specs.declared.key.Key.{Key}
use Rattle.wtp_dynamic_encoder.specs.declared.proposal.Proposal.{Proposal}
use Rattle.wtp_dynamic_encoder.specs.Choosing.{field_of}
use Rattle.wtp_dynamic_encoder.specs.Keys.{IsKey, AreKeys}

pub keys_push : (keys : List Key) (ps : List Proposal) (key : Key) (d : Proposal) (i : ℕ) → AreKeys keys ps → length keys ≡ i → IsKey key (field_of (get_or ps i d)) → AreKeys (keys ++ key ∷ []) ps
keys_push keys ps key d i are count is = λ place k other found there. elim (cases_lt place (length keys)) [
  | inl before ↦
      let first : get_or (keys ++ key ∷ []) place k ≡ k = get_or_from_slice_get (keys ++ key ∷ []) place k k found in
      let old : k ≡ get_or keys place k = sym first ∙ get_or_append_left keys (key ∷ []) k place before in
      are place k other (slice_get_read keys (length keys) place k refl before old) there
  | inr after ↦
      let within : place < length (keys ++ key ∷ []) = slice_get_within (keys ++ key ∷ []) place k found in
      let at : place ≡ length keys = omega (arith, length-append keys (key ∷ [])) in
      let last : k ≡ key = sym (get_or_from_slice_get (keys ++ key ∷ []) place k k found) ∙ ap (λ n. get_or (keys ++ key ∷ []) n k) at ∙ get_or-append_seam keys key [] k in
      let same : get_or ps i d ≡ other =
      let there_too : slice_get ps i ≡ Some other = ap (slice_get ps) (sym (at ∙ count)) ∙ there in
      get_or_from_slice_get ps i other d there_too in
      subst (λ (x : Key). IsKey x (field_of other)) (sym last) (subst (λ (x : Proposal). IsKey key (field_of x)) same is)
]

-- the key of one place
pub key_here : (keys : List Key) (ps : List Proposal) (i : ℕ) (d : Proposal) → AreKeys keys ps → i < length ps → (key : Key) → slice_get keys i ≡ Some key → IsKey key (field_of (get_or ps i d))
key_here keys ps i d are within key found = are i key (get_or ps i d) found (slice_get_read ps (length ps) i (get_or ps i d) refl within (get_or_default ps i d (get_or ps i d) within))
