-- One more poll after a series of them.
use Rattle.std.proofs.Common.{◌≡◌, ℕ, ◌+◌, Bool, List, [], ◌∷◌, ◌++◌, refl, sym, ap, ◌∙◌, subst, append-nil, length-append, Option, Result, Ok, Err}
use Rattle.std.proofs.lemmas.List.Elements.{All-append, All-nil, All-cons}
use Rattle.wtp_core.specs.declared.bytes.poll.Polled.{Polled}
use Rattle.wtp_core.specs.declared.bytes.poll.Polled.TheVariants.{Ready, Pending, Again, NoMemory}
use Rattle.wtp_core.specs.Source.{Source, HasModel}
use Rattle.wtp_core.specs.Polled.{PollsAtMost, WaitsAs}
use Rattle.wtp_core.proofs.TellingLemmas.{telling_map, telling_both}
use Rattle.wtp_wire.specs.Content.{Content}
use Rattle.wtp_wire.specs.Held.{Held}
use Rattle.wtp_wire.specs.Rule.{Role}
use Rattle.wtransport_proto.specs.declared.stream.error.IoReadError.{IoReadError}
use Rattle.wtransport_proto.specs.StreamPolling.{StreamPolled}
use Rattle.wtransport_proto.specs.Polls.{PollDid, Polls, frames_in, Series}

pub poll_did : (t u : Option Source) (role : Role) (x : Polled (Result Content IoReadError)) (first next : Bool) (old new : Held)
    → HasModel t u (StreamPolled role x first next old new) → HasModel t u (WaitsAs x) → HasModel t u (PollsAtMost 4112) → HasModel t u (PollDid role x first next old new)
poll_did t u role x first next old new p w k =
    telling_map t u (λ a b. StreamPolled role x first next old new a b × (WaitsAs x a b × PollsAtMost 4112 a b)) (PollDid role x first next old new) (λ a b h. (h.0, h.1.0, h.1.1))
    (telling_both t u (StreamPolled role x first next old new) (λ a b. WaitsAs x a b × PollsAtMost 4112 a b) p (telling_both t u (WaitsAs x) (PollsAtMost 4112) w k))

polls_on : (role : Role) (xs : List (Polled (Result Content IoReadError))) (x : Polled (Result Content IoReadError)) (f0 f1 f2 : Bool) (old mid new : Held) (a b c : Source) → Polls role xs f0 f1 old mid a b → PollDid role x f1 f2 mid new b c → Polls role (xs ++ x ∷ []) f0 f2 old new a c
polls_on role [] x f0 f1 f2 old mid new a b c p q =
    (f2, new, c, subst (λ (f : Bool). PollDid role x f f2 old new a c) p.0 (subst (λ (h : Held). PollDid role x f1 f2 h new a c) p.1 (subst (λ (s : Source). PollDid role x f1 f2 mid new s c) p.2 q)), (refl, refl, refl))
polls_on role (y ∷ ys) x f0 f1 f2 old mid new a b c (flag, held, source, one, more) q =
    (flag, held, source, one, polls_on role ys x flag f1 f2 held mid new source b c more q)

frames-append : (xs ys : List (Polled (Result Content IoReadError))) → frames_in (xs ++ ys) ≡ frames_in xs ++ frames_in ys
frames-append [] ys = refl
frames-append (Ready (Ok f) ∷ xs) ys = ap (λ (l : List Content). f ∷ l) (frames-append xs ys)
frames-append (Ready (Err x) ∷ xs) ys = frames-append xs ys
frames-append (Pending ∷ xs) ys = frames-append xs ys
frames-append (Again ∷ xs) ys = frames-append xs ys
frames-append (NoMemory ∷ xs) ys = frames-append xs ys

module _ (Each : Polled (Result Content IoReadError) → Type 0) where
  pub series_start : (role : Role) (first : Bool) (old : Held) (fs : List Content) (a : Source) → fs ≡ [] → Series Each role fs 0 [] first first old old a a
  series_start role first old fs a e = record { results = []; each = All-nil Each; many = refl; frames = sym e; polls = (refl, refl, refl) }

  pub series_end : (role : Role) (fs : List Content) (n : ℕ) (x : Polled (Result Content IoReadError)) (f0 f1 f2 : Bool) (old mid new : Held) (a b c : Source) → Series Each role fs n [] f0 f1 old mid a b → PollDid role x f1 f2 mid new b c → Series Each role fs n (x ∷ []) f0 f2 old new a c
  series_end role fs n x f0 f1 f2 old mid new a b c g q = record {
    results = g.results;
    each = g.each;
    many = g.many;
    frames = g.frames;
    polls = polls_on role g.results x f0 f1 f2 old mid new a b c (subst (λ (l : List (Polled (Result Content IoReadError))). Polls role l f0 f1 old mid a b) (append-nil g.results) g.polls) q;
  }

  pub series_on : (role : Role) (fs fs' : List Content) (n : ℕ) (x : Polled (Result Content IoReadError)) (f0 f1 f2 : Bool) (old mid new : Held) (a b c : Source) → fs' ≡ fs ++ frames_in (x ∷ []) → Each x → Series Each role fs n [] f0 f1 old mid a b → PollDid role x f1 f2 mid new b c → Series Each role fs' (n + 1) [] f0 f2 old new a c
  series_on role fs fs' n x f0 f1 f2 old mid new a b c is each g q =
      let p : Polls role (g.results ++ x ∷ []) f0 f2 old new a c = polls_on role g.results x f0 f1 f2 old mid new a b c (subst (λ (l : List (Polled (Result Content IoReadError))). Polls role l f0 f1 old mid a b) (append-nil g.results) g.polls) q in
      record {
        results = g.results ++ x ∷ [];
        each = All-append Each g.results (x ∷ []) g.each (All-cons Each x [] each (All-nil Each));
        many = length-append g.results (x ∷ []) ∙ ap (λ (k : ℕ). k + 1) g.many;
        frames = frames-append g.results (x ∷ []) ∙ ap (λ (l : List Content). l ++ frames_in (x ∷ [])) g.frames ∙ sym is;
        polls = subst (λ (l : List (Polled (Result Content IoReadError))). Polls role l f0 f2 old new a c) (sym (append-nil (g.results ++ x ∷ []))) p;
      }
