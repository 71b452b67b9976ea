-- What is not read of a stream after its turns.
use Rattle.std.proofs.Common.{◌≡◌, ℕ, ◌+◌, ◌≤◌, ◌||◌, Bool, true, false, List, [], ◌∷◌, ◌++◌, length, drop, refl, sym, ap, ◌∙◌, append_assoc, append-nil, le_trans}
use Rattle.std.proofs.lemmas.List.{drop-append-le, drop-drop}
use Rattle.vesgrauf_stream.specs.Turns.{Turn, Comes, Reads, Unread, Leads, bytes_in, read_in, end_in}

-- bytes are read, and more come
followed : (unread more : List ℕ) (n later : ℕ)
    → n ≤ length unread
    → drop later (drop n unread ++ more) ≡ drop (n + later) (unread ++ more)
followed unread more n later within =
    ap (drop later) (sym (drop-append-le n unread more within)) ∙ drop-drop later n (unread ++ more)

or_joined : (a b c : Bool) → ((a || b) || c) ≡ (a || (b || c))
or_joined true b c = refl
or_joined false b c = refl

or_none : (a : Bool) → a ≡ (a || false)
or_none true = refl
or_none false = refl

pub turns_left : (turns : List Turn) (u v : Unread)
    → Leads turns u v
    → v.0 ≡ drop (read_in turns) (u.0 ++ bytes_in turns)
turns_left [] u v same = ap (λ x. x.0) (sym same) ∙ sym (append-nil u.0)
turns_left (Comes bytes fin ∷ turns) u v lead =
    turns_left turns (u.0 ++ bytes, u.1 || fin) v lead
    ∙ ap (drop (read_in turns)) (append_assoc u.0 bytes (bytes_in turns))
turns_left (Reads reach consumed ∷ turns) u v lead =
    turns_left turns (drop consumed u.0, u.1) v lead.2
    ∙ followed u.0 (bytes_in turns) consumed (read_in turns) (le_trans lead.1 lead.0)

pub turns_end : (turns : List Turn) (u v : Unread) → Leads turns u v → v.1 ≡ (u.1 || end_in turns)
turns_end [] u v same = ap (λ x. x.1) (sym same) ∙ or_none u.1
turns_end (Comes bytes fin ∷ turns) u v lead =
    turns_end turns (u.0 ++ bytes, u.1 || fin) v lead ∙ or_joined u.1 fin (end_in turns)
turns_end (Reads reach consumed ∷ turns) u v lead =
    turns_end turns (drop consumed u.0, u.1) v lead.2
