-- What comes on one stream, call after call, and what is told of it.
use Rattle.std.proofs.Common.{arith, length, ◌≡◌, ◌++◌, ◌||◌, ℕ, List, [], ◌∷◌, Bool, true, false, refl, inl, inr, sym, ap, ◌∙◌, append_assoc, append-nil, subst}
use Rattle.wtp_webtransport.specs.declared.stream.Stream.{Stream}
use Rattle.vesgrauf.specs.Items.{Item, has_end}
use Rattle.vesgrauf.specs.Theirs.{Theirs, Gone, Unread, Piece, IsCall, AreCalls, all_items, Turns, Still, IsTurned, IsLeft, AreRead, IsReadTo, more_bytes}
use Rattle.vesgrauf.specs.Runs.{Step, Comes, Tells, Rests, with_more, Does, Leads, came, ends, told, IsToldOf}
use Rattle.vesgrauf.proofs.ReadsLemmas.{gone_left_by, gone_is_read, calls_turned, calls_join, calls_more, items_join}

or_none : (a : Bool) → (a || false) ≡ a
or_none true = refl
or_none false = refl

more_none : (ended : Bool) (bytes : List ℕ) → bytes ≡ more_bytes ended bytes []
more_none true bytes = refl
more_none false bytes = sym (append-nil bytes)

more_assoc : (a b : Bool) (x y z : List ℕ) → more_bytes (a || b) (more_bytes a x y) z ≡ more_bytes a x (more_bytes b y z)
more_assoc true b x y z = refl
more_assoc false true x y z = refl
more_assoc false false x y z = append_assoc x y z

or_assoc : (a b c : Bool) → (a || (b || c)) ≡ ((a || b) || c)
or_assoc true b c = refl
or_assoc false b c = refl

-- what is gone stays so, and nothing is told of it
gone_run : (steps : List Step) (x y : Theirs) → x ≡ Gone → Leads steps x y → (y ≡ Gone) × (told steps ≡ [])
gone_run [] x y g p = (p ∙ g, refl)
gone_run (Comes bytes fin ∷ steps) x y g p =
    gone_run steps p.0 y (p.1 ∙ ap (λ t. with_more t bytes fin) g) p.2
gone_run (Tells items ∷ steps) x y g p =
    let q : (p.0 ≡ Gone) × (items ≡ []) = gone_is_read x p.0 items g p.1.0 in
    let r : (y ≡ Gone) × (told steps ≡ []) = gone_run steps p.0 y q.0 p.2 in
    (r.0, ap (λ l. l ++ told steps) q.1 ∙ r.1)
gone_run (Rests ∷ steps) x y g p = gone_run steps p.0 y (gone_left_by x p.0 g p.1) p.2

-- nothing more is read of these bytes
gone_told : (bytes : List ℕ) (ended : Bool) (s : Stream) (items : List Item) (y : Theirs) → y ≡ Gone → items ≡ []
    → IsToldOf bytes ended s items y
gone_told bytes ended s items y g h = record {
  pieces = [];
  rest = bytes;
  t = s;
  calls = (refl, Still refl);
  says = sym h;
  left = inr g;
}

-- what was read of the first bytes
calls_from : (bytes more : List ℕ) (ended fin : Bool) (s : Stream) (items : List Item) (x u : Theirs)
    → x ≡ Unread bytes ended s → (r : AreRead x items u)
    → AreCalls r.pieces (more_bytes ended bytes more) (ended || fin) s (more_bytes ended r.rest more) r.after
calls_from bytes more ended fin s items x u h r =
    let same : r.bytes ≡ bytes = cc in
    let whether : r.ended ≡ ended = cc in
    let at : r.before ≡ s = cc in
    calls_more r.pieces bytes more r.rest ended fin s r.after
    (subst (λ o. AreCalls r.pieces bytes ended o r.rest r.after) at
    (subst (λ e. AreCalls r.pieces bytes e r.before r.rest r.after) whether
    (subst (λ l. AreCalls r.pieces l r.ended r.before r.rest r.after) same r.calls)))

-- these were read, and then nothing more is
last_told : (bytes more : List ℕ) (ended fin : Bool) (s : Stream) (items later : List Item) (x u y : Theirs)
    → x ≡ Unread bytes ended s → AreRead x items u → y ≡ Gone → later ≡ []
    → IsToldOf (more_bytes ended bytes more) (ended || fin) s (items ++ later) y
last_told bytes more ended fin s items later x u y h r g n = record {
  pieces = r.pieces;
  rest = more_bytes ended r.rest more;
  t = r.after;
  calls = calls_from bytes more ended fin s items x u h r;
  says = r.says ∙ sym (append-nil items) ∙ ap (λ l. items ++ l) (sym n);
  left = inr g;
}

-- these were read, and then those that the rest says
then_told : (bytes more : List ℕ) (ended fin : Bool) (s : Stream) (items later : List Item) (x u y : Theirs)
    → x ≡ Unread bytes ended s → (r : AreRead x items u) → IsToldOf (more_bytes ended r.rest more) (ended || fin) r.after later y
    → IsToldOf (more_bytes ended bytes more) (ended || fin) s (items ++ later) y
then_told bytes more ended fin s items later x u y h r q = record {
  pieces = r.pieces ++ q.pieces;
  rest = q.rest;
  t = q.t;
  calls = calls_join r.pieces q.pieces (more_bytes ended bytes more) (more_bytes ended r.rest more) q.rest (ended || fin) s r.after q.t
      (calls_from bytes more ended fin s items x u h r) q.calls;
  says = items_join r.pieces q.pieces ∙ ap (λ l. l ++ all_items q.pieces) r.says ∙ ap (λ l. items ++ l) q.says;
  left = q.left;
}

-- after calls that read nothing
told_turned : (bytes : List ℕ) (ended : Bool) (s t : Stream) (items : List Item) (y : Theirs) → Turns s t
    → IsToldOf bytes ended t items y → IsToldOf bytes ended s items y
told_turned bytes ended s t items y h q = record {
  pieces = q.pieces;
  rest = q.rest;
  t = q.t;
  calls = calls_turned q.pieces bytes q.rest ended s t q.t h q.calls;
  says = q.says;
  left = q.left;
}

rest_run : (steps : List Step) (bytes : List ℕ) (ended : Bool) (s : Stream) (x z y : Theirs) → x ≡ Unread bytes ended s
    → IsLeft x z
    → ((t : Stream) → z ≡ Unread bytes ended t → IsToldOf (more_bytes ended bytes (came steps)) (ended || ends steps) t (told steps) y)
    → Leads steps z y → IsToldOf (more_bytes ended bytes (came steps)) (ended || ends steps) s (told steps) y
rest_run steps bytes ended s x z y h (inl e) f p = f s (e ∙ h)
rest_run steps bytes ended s x z y h (inr (inl e)) f p =
    let g : (y ≡ Gone) × (told steps ≡ []) = gone_run steps z y e p in
    gone_told (more_bytes ended bytes (came steps)) (ended || ends steps) s (told steps) y g.0 g.1
rest_run steps bytes ended s x z y h (inr (inr e)) f p =
    let r : IsTurned (Unread bytes ended s) z = subst (λ o. IsTurned o z) h e in
    told_turned (more_bytes ended bytes (came steps)) (ended || ends steps) s r.0 (told steps) y r.1 (f r.0 r.2)

-- the rest is left, and its state
rest_at : (steps : List Step) (x u z y : Theirs) (items : List Item) (ended : Bool) (r : AreRead x items u) → r.ended ≡ ended
    → IsLeft u z
    → ((l : List ℕ) (t : Stream) → z ≡ Unread l ended t → IsToldOf (more_bytes ended l (came steps)) (ended || ends steps) t (told steps) y)
    → Leads steps z y → IsToldOf (more_bytes ended r.rest (came steps)) (ended || ends steps) r.after (told steps) y
rest_at steps x u z y items ended r whether l f p =
    rest_run steps r.rest ended r.after u z y (r.to ∙ ap (λ b. Unread r.rest b r.after) whether) l
    (λ t e. f r.rest t e) p

read_run : (steps : List Step) (bytes : List ℕ) (ended : Bool) (s : Stream) (items : List Item) (x u z y : Theirs)
    → x ≡ Unread bytes ended s → IsReadTo x items u → IsLeft u z
    → ((l : List ℕ) (t : Stream) → z ≡ Unread l ended t → IsToldOf (more_bytes ended l (came steps)) (ended || ends steps) t (told steps) y)
    → Leads steps z y → IsToldOf (more_bytes ended bytes (came steps)) (ended || ends steps) s (items ++ told steps) y
read_run steps bytes ended s items x u z y h (inl r) l f p =
    subst (λ c. IsToldOf (more_bytes ended bytes (came steps)) (ended || ends steps) s (c ++ told steps) y) (sym r.1)
    (rest_run steps bytes ended s u z y (r.0 ∙ h) l (λ t e. f bytes t e) p)
read_run steps bytes ended s items x u z y h (inr r) l f p =
    then_told bytes (came steps) ended (ends steps) s items (told steps) x u y h r
    (rest_at steps x u z y items ended r (let whether : r.ended ≡ ended = cc in whether) l f p)

run_from : (steps : List Step) (bytes : List ℕ) (ended : Bool) (s : Stream) (x y : Theirs) → x ≡ Unread bytes ended s
    → Leads steps x y → IsToldOf (more_bytes ended bytes (came steps)) (ended || ends steps) s (told steps) y
run_from [] bytes ended s x y h p = record {
  pieces = [];
  rest = more_bytes ended bytes [];
  t = s;
  calls = (refl, Still refl);
  says = refl;
  left = inl (p ∙ h ∙ ap (λ l. Unread l ended s) (more_none ended bytes)
      ∙ ap (λ b. Unread (more_bytes ended bytes []) b s) (sym (or_none ended)));
}
run_from (Comes more fin ∷ steps) bytes ended s x y h p =
    subst (λ b. IsToldOf (more_bytes ended bytes (more_bytes fin more (came steps))) b s (told steps) y)
    (sym (or_assoc ended fin (ends steps)))
    (subst (λ l. IsToldOf l ((ended || fin) || ends steps) s (told steps) y)
    (more_assoc ended fin bytes more (came steps))
    (run_from steps (more_bytes ended bytes more) (ended || fin) s p.0 y (p.1 ∙ ap (λ t. with_more t more fin) h) p.2))
run_from (Tells items ∷ steps) bytes ended s x y h p =
    read_run steps bytes ended s items x p.1.0.0 p.0 y h p.1.0.1 p.1.0.2
    (λ l t e. run_from steps l ended t p.0 y e p.2) p.2
run_from (Rests ∷ steps) bytes ended s x y h p =
    rest_run steps bytes ended s x p.0 y h p.1 (λ t e. run_from steps bytes ended t p.0 y e p.2) p.2

-- nothing is told after the end
pub end_is_last : (items : List Item) (steps : List Step) (x y z : Theirs) → Does (Tells items) x y
    → has_end items ≡ true → Leads steps y z → told steps ≡ []
end_is_last items steps x y z p e q = (gone_run steps y z (p.1 e) q).1

pub run_tells : (steps : List Step) (s : Stream) (y : Theirs) → Leads steps (Unread [] false s) y
    → IsToldOf (came steps) (ends steps) s (told steps) y
run_tells steps s y p = run_from steps [] false s (Unread [] false s) y refl p

-- no call that reads is one after an error of the connection
pub none_after_an_error : (bytes : List ℕ) (ended : Bool) (p : Piece) (s t : Stream) (k : IsCall bytes ended p s t)
    → k.c.over ≡ true → ⊥
none_after_an_error bytes ended p s t k h = absurd (let bad : false ≡ true = sym k.lives ∙ h in cc)

-- no call is told of the end before the bytes that come before it
pub not_before_content : (b : ℕ) (bytes : List ℕ) (p : Piece) (s t : Stream) (k : IsCall (b ∷ bytes) true p s t)
    → k.fin ≡ true → p.reach ≡ 0 → ⊥
not_before_content b bytes p s t k h z =
    let all : p.reach ≡ length (b ∷ bytes) = (k.ends h).1 in
    omega (arith, all, z)
