-- A datagram of a capsule that is longer than the limit is skipped where it is cut.
use Rattle.std.proofs.Common.{◌≡◌, ℕ, zero, suc, ◌+◌, ◌==◌, nat_lt, ◌&&◌, if◌then◌else◌, Bool, true, false, List, [], ◌∷◌, length, Option, Some, None, refl, sym, ap, ◌∙◌, inl, inr, arith}
use Rattle.std.proofs.lemmas.Bool.{ltb-true}
use Rattle.wtp_webtransport.specs.Capsules.{Place, Head, Value, Skipping}
use Rattle.wtp_webtransport.specs.declared.capsules.CapsuleType.{CapsuleType}
use Rattle.wtp_webtransport.specs.declared.capsules.CapsuleType.TheVariants as capsule
use Rattle.wtp_webtransport.specs.declared.capsules.words.CapsuleWords.{CapsuleWords}
use Rattle.wtp_webtransport.specs.declared.stream.Stream.{Stream}
use Rattle.wtp_webtransport.specs.declared.stream.words.StreamWords.{StreamWords}
use Rattle.wtp_webtransport.specs.Words.{capsule_words, held_in, IsSound, stream_words}
use Rattle.wt_c.specs.ConnectionCalls.{value_within, place_within, stream_within, limited, limited_words}

value_words : (b : Bool) (v : List ℕ) (n : ℕ) → capsule_words (Some (if b then Skipping n else Value capsule.Datagram v n)) ≡ (if b then record (capsule_words (Some (Value capsule.Datagram v n))) { kind = 2; held = 0 } else capsule_words (Some (Value capsule.Datagram v n)))
value_words true v n = refl
value_words false v n = refl

pub place_words : (max : ℕ) (o : Option Place) → capsule_words (place_within max o) ≡ limited max (capsule_words o)
place_words max None = refl
place_words max (Some (Head h)) = refl
place_words max (Some (Skipping n)) = refl
place_words max (Some (Value capsule.Close v n)) = refl
place_words max (Some (Value capsule.Drain v n)) = refl
place_words max (Some (Value capsule.Datagram v n)) = value_words (nat_lt 0 n && nat_lt max (length v + n)) v n

pub words_within : (max : ℕ) (s : Stream) → stream_words (stream_within max s) ≡ limited_words max (stream_words s)
words_within max s = ap (λ (w : CapsuleWords). record (stream_words s) { capsules = w }) (place_words max s.capsules)

pub held_size : (o : Option Place) → (capsule_words o).held ≡ length (held_in o)
held_size None = refl
held_size (Some (Head h)) = refl
held_size (Some (Skipping n)) = refl
held_size (Some (Value k v n)) = refl

pub empty : (xs : List ℕ) → length xs ≡ 0 → xs ≡ []
empty [] e = refl
empty (x ∷ xs) e = absurd (omega (arith, e))

-- none are held
pub none_held : (max : ℕ) (o : Option Place) → (limited max (capsule_words o)).held ≡ 0 → held_in (place_within max o) ≡ []
none_held max o e = empty (held_in (place_within max o)) (sym (held_size (place_within max o)) ∙ ap (λ (w : CapsuleWords). w.held) (place_words max o) ∙ e)

value_held : (b : Bool) (v : List ℕ) (n : ℕ) → ¬ ((capsule_words (Some (if b then Skipping n else Value capsule.Datagram v n))).held ≡ 0) → held_in (Some (if b then Skipping n else Value capsule.Datagram v n)) ≡ v
value_held true v n some = absurd (some refl)
value_held false v n some = refl

held_alike : (max : ℕ) (o : Option Place) → ¬ ((capsule_words (place_within max o)).held ≡ 0) → held_in (place_within max o) ≡ held_in o
held_alike max None some = refl
held_alike max (Some (Head h)) some = refl
held_alike max (Some (Skipping n)) some = refl
held_alike max (Some (Value capsule.Close v n)) some = refl
held_alike max (Some (Value capsule.Drain v n)) some = refl
held_alike max (Some (Value capsule.Datagram v n)) some = value_held (nat_lt 0 n && nat_lt max (length v + n)) v n some

-- the same are held
pub same_held : (max : ℕ) (o : Option Place) → ¬ ((limited max (capsule_words o)).held ≡ 0) → held_in (place_within max o) ≡ held_in o
same_held max o some = held_alike max o (λ e. some (sym (ap (λ (w : CapsuleWords). w.held) (place_words max o)) ∙ e))

value_sound : (n : ℕ) (v : List ℕ) (b c : Bool) → b ≡ nat_lt 0 n → IsSound (Some (if b && c then Skipping n else Value capsule.Datagram v n))
value_sound n v false c e = tt
value_sound n v true false e = tt
value_sound n v true true e = ltb-true 0 n (sym e)

pub sound_within : (max : ℕ) (o : Option Place) → IsSound o → IsSound (place_within max o)
sound_within max None s = tt
sound_within max (Some (Head h)) s = s
sound_within max (Some (Skipping n)) s = s
sound_within max (Some (Value capsule.Close v n)) s = tt
sound_within max (Some (Value capsule.Drain v n)) s = tt
sound_within max (Some (Value capsule.Datagram v n)) s = value_sound n v (nat_lt 0 n) (nat_lt max (length v + n)) refl
