-- Steps that change nothing, before and after one that does.
use Rattle.std.proofs.Common.{◌≡◌, ◌∙◌, ℕ, sym, subst}
use Rattle.std.specs.Prelude.{IfOk, IfErr, Result, Ok, Err}
use Rattle.std.specs.Ordering.{nat_cmp}
use Rattle.std.specs.Map.{lookup}
use Rattle.std.specs.BTreeMap.{is_at}
use Rattle.vesgrauf_stream.specs.declared.writing.Writing.{Writing}
use Rattle.vesgrauf.specs.declared.connection.Connection.{Connection}
use Rattle.vesgrauf.specs.declared.refused.Refused.{Refused}
use Rattle.vesgrauf.specs.declared.refused.Refused.TheVariants as refused
use Rattle.vesgrauf.specs.State.{Changes, IsStill, Of, Owes, StaysFor, View, view_of, with_stream}

-- one own half changes so, and nothing else that the program or QUIC sees
abbrev Changed : ℕ → (Writing → Writing → Type 0) → View → View → Type 0
Changed id How v u = Of (lookup (is_at (nat_cmp id)) v.streams)
    (λ e. (w : Writing) × How e.writing w × (u ≡ with_stream v id (record e { writing = w })))

pub changes_between : (id : ℕ) (How : Writing → Writing → Type 0) (c m n d : Connection) → IsStill c m → Changes id How m n
    → IsStill n d → Changes id How c d
changes_between id How c m n d p h q =
    subst (λ u. Changed id How (view_of c) u) (sym q) (subst (λ v. Changed id How v (view_of n)) p h)

pub stays_between : (e : Refused) (id : ℕ) (c m n d : Connection) → IsStill c m → StaysFor e id m n → IsStill n d
    → StaysFor e id c d
stays_between refused.Full id c m n d p h q = changes_between id Owes c m n d p h q
stays_between refused.Closed id c m n d p h q = q ∙ (h ∙ p)
stays_between refused.NoStream id c m n d p h q = q ∙ (h ∙ p)
stays_between refused.Over id c m n d p h q = q ∙ (h ∙ p)
stays_between refused.WrongCode id c m n d p h q = q ∙ (h ∙ p)
stays_between refused.WrongSide id c m n d p h q = q ∙ (h ∙ p)
stays_between refused.GoAway id c m n d p h q = q ∙ (h ∙ p)
stays_between refused.NotReady id c m n d p h q = q ∙ (h ∙ p)
stays_between refused.NotOpen id c m n d p h q = q ∙ (h ∙ p)
stays_between refused.SessionGone id c m n d p h q = q ∙ (h ∙ p)
stays_between refused.TooManySessions id c m n d p h q = q ∙ (h ∙ p)
stays_between refused.NoMoreIds id c m n d p h q = q ∙ (h ∙ p)
stays_between refused.TooLarge id c m n d p h q = q ∙ (h ∙ p)
stays_between refused.NotAsked id c m n d p h q = q ∙ (h ∙ p)
stays_between refused.Memory id c m n d p h q = q ∙ (h ∙ p)
stays_between (refused.Send x) id c m n d p h q = q ∙ (h ∙ p)

pub if_ok_map : {A E : Type 0} {P Q : A → Type 0} (r : Result A E) → ((a : A) → P a → Q a) → IfOk r P → IfOk r Q
if_ok_map (Ok a) f p = f a p
if_ok_map (Err e) f p = p

pub if_err_map : {A E : Type 0} {P Q : E → Type 0} (r : Result A E) → ((e : E) → P e → Q e) → IfErr r P → IfErr r Q
if_err_map (Ok a) f p = p
if_err_map (Err e) f p = f e p
