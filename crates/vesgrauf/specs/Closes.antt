-- How the peer closed a session (draft-ietf-webtrans-http3-02, section 5).
use Rattle.std.specs.Prelude.{◌≡◌, ◌⊎◌, ℕ, List, [], Option, Some, None, IsUtf8}
use Rattle.vesgrauf.specs.declared.event.Why.{Why}
use Rattle.vesgrauf.specs.declared.event.Why.TheVariants as why

-- the code and the reason with which the peer closed the session of a stream that is over, if it did
abbrev pub close_in : Why → Option (ℕ × List ℕ)
close_in (why.Session close) = Some close
close_in other = None

-- this is its code, and this its reason, which is UTF-8
abbrev pub IsText : Option (ℕ × List ℕ) → ℕ → List ℕ → Type 0
IsText None code reason = ⊥
IsText (Some close) code reason = (code ≡ close.0) × ((reason ≡ close.1) ⊎ ((reason ≡ []) × ¬ (IsUtf8 close.1)))
