-- What is heard in bytes that are kept and some of an input.
use Rattle.std.proofs.Common.{◌≡◌, ℕ, ◌+◌, ◌-◌, ◌≤◌, ◌<◌, ◌⊎◌, inl, inr, ◌||◌, IsTrue, Bool, true, false, List, [], ◌∷◌, ◌++◌, length, take, drop, refl, sym, ap, ◌∙◌, subst, le_trans, le_refl, arith, rules, append-nil, length-append, length-drop, length-take, length-take-le, take_all, take-take, drop-drop, drop_of_length-le}
use Rattle.std.specs.Prelude.{min, ◌==◌, ◌&&◌}
use Rattle.std.proofs.lemmas.Bool.{cases_lt}
use Rattle.std.proofs.lemmas.List.{drop-take, drop-append-le, take-append-le}
use Rattle.std.proofs.Math.Seq.{drop-append-add, take-append-add, take-append_seam}
use Rattle.wtp_webtransport.specs.declared.connection.Connection.{Connection}
use Rattle.wtp_webtransport.specs.declared.stream.Stream.{Stream}
use Rattle.wtp_webtransport.specs.Events.{Told}
use Rattle.wtp_webtransport.specs.Events as told
use Rattle.wtp_webtransport.specs.Places.{IsPlaced}
use Rattle.wtp_webtransport.specs.Receiving.{Outcome}
use Rattle.wtp_webtransport.specs.Tables.{Call}
use Rattle.wtp_webtransport.proofs.PlaceLemmas.{called_placed, called_within}
use Rattle.vesgrauf_stream.specs.declared.bytes.Chunk.{Chunk}
use Rattle.vesgrauf_stream.specs.declared.reading.Reading.{Reading}
use Rattle.vesgrauf_stream.specs.declared.reading.Looked.{Looked}
use Rattle.vesgrauf_stream.specs.declared.heard.Heard.{Heard}
use Rattle.vesgrauf_stream.specs.declared.reading.Found.{Found}
use Rattle.vesgrauf_stream.specs.declared.reading.Found.TheVariants as found
use Rattle.vesgrauf_stream.specs.Reading.{piece_of, told_in, without_payload, kept_of, unread, is_ended, Says, Hears, LooksAt, Keeps}
use Rattle.vesgrauf_stream.specs.Turns.{Reads, Unread, Leads}

-- those of its bytes that it refers to are no more
piece_fits : (say : Told) (n : ℕ) (bytes : List ℕ) → IsPlaced say n bytes → length (piece_of say) ≤ length bytes
piece_fits (told.Frame kind payload) n bytes at = le_trans at.size at.within
piece_fits (told.Data piece) n bytes at = le_trans at.size at.within
piece_fits (told.StreamData piece) n bytes at = le_trans at.size at.within
piece_fits say n bytes at = omega arith

pub call_fits : (limit : ℕ) (c : Connection) (s : Stream) (bytes : List ℕ) (fin : Bool) (o : Outcome)
    → Call limit c s bytes fin o
    → length (piece_of o.1) ≤ length bytes
call_fits limit c s bytes fin o gives =
    piece_fits o.1 o.0 bytes (called_placed limit c s bytes fin o gives)

pub take_short : (n : ℕ) (bytes : List ℕ) → length (take n bytes) ≤ n
take_short n bytes = omega (arith, length-take n bytes)

-- ---- bytes that were joined are taken back

-- what was kept before they were joined
before : (b : List ℕ) (used joined : ℕ)
    → used + joined ≤ length b
    → drop used (take (length b - joined) b) ≡ take (length (drop used b) - joined) (drop used b)
before b used joined fits =
    let m : ℕ = (length b - joined) - used in
    let all : length b - joined ≡ used + m = omega (arith, fits) in
    let rest : m ≡ length (drop used b) - joined = omega (arith, fits, length-drop used b) in
    ap (λ n. drop used (take n b)) all ∙ drop-take used m b ∙ ap (λ n. take n (drop used b)) rest

before_length : (b : List ℕ) (used joined : ℕ)
    → used + joined ≤ length b
    → length (take (length (drop used b) - joined) (drop used b)) ≡ (length b - joined) - used
before_length b used joined fits =
    let size : length (drop used b) ≡ length b - used = length-drop used b in
    omega (arith, fits, size, length-take-le (length (drop used b) - joined) (drop used b) (omega (arith, size)))

-- fewer are read than were kept before
pub read_within : (b i : List ℕ) (used joined n : ℕ)
    → used + joined ≤ length b
    → used + n ≤ length b - joined
    → drop (used + n) (take (length b - joined) b) ++ i
    ≡ drop n (take (length (drop used b) - joined) (drop used b) ++ i)
read_within b i used joined n fits few =
    let k : List ℕ = take (length (drop used b) - joined) (drop used b) in
    let size : n ≤ length k = omega (arith, few, before_length b used joined fits) in
    ap (λ x. x ++ i) (sym (drop-drop n used (take (length b - joined) b)) ∙ ap (drop n) (before b used joined fits))
    ∙ sym (drop-append-le n k i size)

-- all of these are read, and some of the input
pub read_beyond : (b i : List ℕ) (used joined n : ℕ)
    → used + joined ≤ length b
    → length b - joined ≤ used + n
    → drop (length b - joined) (take (length b - joined) b) ++ drop (n - ((length b - joined) - used)) i
    ≡ drop n (take (length (drop used b) - joined) (drop used b) ++ i)
read_beyond b i used joined n fits many =
    let k : List ℕ = take (length (drop used b) - joined) (drop used b) in
    let size : length k ≡ (length b - joined) - used = before_length b used joined fits in
    let len : length (take (length b - joined) b) ≡ length b - joined =
    length-take-le (length b - joined) b (omega (arith, fits)) in
    let sum : length k + (n - ((length b - joined) - used)) ≡ n = omega (arith, fits, many, size) in
    ap (λ x. x ++ drop (n - ((length b - joined) - used)) i)
    (drop_of_length-le (take (length b - joined) b) (omega (arith, len)))
    ∙ sym (drop-append-add k i (n - ((length b - joined) - used)))
    ∙ ap (λ m. drop m (k ++ i)) sum

-- ---- the first of the bytes that were not read

-- as many of the input are joined as are looked at
same_front : (k i : List ℕ) (len joined : ℕ)
    → len ≤ length k + length i
    → joined ≡ min (len - length k) (length i)
    → (len < length k) ⊎ (length k ≤ len)
    → take len (k ++ take joined i) ≡ take len (k ++ i)
same_front k i len joined fits count (inl few) =
    take-append-le len k (take joined i) (omega (arith, few)) ∙ sym (take-append-le len k i (omega (arith, few)))
same_front k i len joined fits count (inr many) =
    let n : ℕ = len - length k in
    let sum : len ≡ length k + n = omega (arith, many) in
    let same : joined ≡ n = omega (arith, fits, many, count) in
    ap (λ m. take m (k ++ take joined i)) sum
    ∙ take-append-add k (take joined i) n
    ∙ ap (λ x. k ++ x) (ap (λ m. take n (take m i)) same ∙ take-take n n i (le_refl n))
    ∙ sym (take-append-add k i n)
    ∙ ap (λ m. take m (k ++ i)) (sym sum)

-- bytes that are kept are looked at with some of the input
pub both_hear : (limit len all joined : ℕ) (fin : Bool) (c d : Connection) (r s : Reading) (input rest : Chunk)
    (joint : List ℕ) (x : Looked) (result : Found)
    → all ≡ length (kept_of r) + length input.bytes.now
    → len ≤ all
    → joined ≡ min (len - length (kept_of r)) (length input.bytes.now)
    → joint ≡ kept_of r ++ take joined input.bytes.now
    → fin ≡ (len == all && is_ended r input)
    → (look : LooksAt limit c r.stream (take len joint) fin x d s.stream)
    → Says result look.say len all
    → unread s rest ≡ drop x.consumed (take (length joint - joined) joint ++ input.bytes.now)
    → is_ended s rest ≡ is_ended r input
    → Hears limit c r input result d s rest
both_hear limit len all joined fin c d r s input rest joint x result sum fits count is last look says left ends =
    let k : List ℕ = kept_of r in
    let i : List ℕ = input.bytes.now in
    let size : length (k ++ i) ≡ all = length-append k i ∙ sym sum in
    let front : take len joint ≡ take len (k ++ i) =
    ap (take len) is ∙ same_front k i len joined (omega (arith, sum, fits)) count (cases_lt len (length k)) in
    let short : length (take joined i) ≡ joined = length-take-le joined i (omega (arith, count)) in
    let whole : length joint ≡ length k + joined = ap (λ b. length b) is ∙ length-append k (take joined i) ∙ ap (λ n. length k + n) short in
    let back : length joint - joined ≡ length k = omega (arith, whole) in
    let kept : take (length joint - joined) joint ≡ k =
    ap (λ n. take n joint) back
    ∙ ap (take (length k)) is
    ∙ take-append_seam k (take joined i) in
    record {
      reach = len;
      consumed = x.consumed;
      say = look.say;
      within = omega (arith, size, fits);
      gives =
          subst (λ b. Call limit c r.stream b (len == length (k ++ i) && is_ended r input) (x.consumed, look.say, d, s.stream))
          front
          (subst (λ f. Call limit c r.stream (take len joint) f (x.consumed, look.say, d, s.stream))
          (last ∙ ap (λ n. len == n && is_ended r input) (sym size))
          look.gives);
      says = subst (λ n. Says result look.say len n) (sym size) says;
      left = left ∙ ap (λ b. drop x.consumed (b ++ i)) kept;
      ends = ends;
    }

same_number : (n : ℕ) → (n == n) ≡ true
same_number n = search rules

-- bytes of an input are looked at where none are kept
pub input_hears : (limit : ℕ) (fin : Bool) (c d : Connection) (r s : Reading) (input rest : Chunk) (say : Told)
    (h : Heard) (consumed : ℕ)
    → kept_of r ≡ []
    → fin ≡ is_ended r input
    → Call limit c r.stream input.bytes.now fin (consumed, say, d, s.stream)
    → told_in h ≡ without_payload say
    → kept_of s ≡ kept_of r
    → s.ended ≡ r.ended
    → rest.bytes.now ≡ drop consumed input.bytes.now
    → rest.fin ≡ input.fin
    → Hears limit c r input (found.Heard h) d s rest
input_hears limit fin c d r s input rest say h consumed empty last gives heard kept ended bytes end =
    let i : List ℕ = input.bytes.now in
    let is : i ≡ unread r input = ap (λ k. k ++ i) (sym empty) in
    let front : i ≡ take (length (unread r input)) (unread r input) =
    is ∙ sym (take_all (length (unread r input)) (unread r input) (le_refl _)) in
    let flag : fin ≡ (length (unread r input) == length (unread r input) && is_ended r input) =
    last ∙ ap (λ b. b && is_ended r input) (sym (same_number (length (unread r input)))) in
    record {
      reach = length (unread r input);
      consumed = consumed;
      say = say;
      within = le_refl _;
      gives =
          subst (λ b. Call limit c r.stream b (length (unread r input) == length (unread r input) && is_ended r input) (consumed, say, d, s.stream))
          front
          (subst (λ f. Call limit c r.stream i f (consumed, say, d, s.stream)) flag gives);
      says = (heard, λ m. refl);
      left = ap (λ k. k ++ rest.bytes.now) (kept ∙ empty) ∙ bytes ∙ ap (drop consumed) is;
      ends = ap (λ e. e || rest.fin) ended ∙ ap (λ f. r.ended || f) end;
    }

-- the same, step by step: bytes are joined, looked at, and taken back
pub steps_hear : (limit len all joined : ℕ) (fin : Bool) (c d : Connection) (r j l u s : Reading)
    (input rest : Chunk) (x : Looked) (result : Found)
    → all ≡ length (kept_of r) + length input.bytes.now
    → len ≤ all
    → joined ≡ min (len - length (kept_of r)) (length input.bytes.now)
    → kept_of j ≡ kept_of r ++ take joined input.bytes.now
    → j.stream ≡ r.stream
    → j.ended ≡ r.ended
    → fin ≡ (len == all && is_ended j input)
    → (look : LooksAt limit c j.stream (take len (kept_of j)) fin x d l.stream)
    → kept_of l ≡ kept_of j
    → l.ended ≡ j.ended
    → Says result look.say len all
    → unread u rest ≡ drop x.consumed (take (length (kept_of l) - joined) (kept_of l) ++ input.bytes.now)
    → rest.fin ≡ input.fin
    → u.stream ≡ l.stream
    → u.ended ≡ l.ended
    → s.stream ≡ u.stream
    → kept_of s ≡ kept_of u
    → s.ended ≡ u.ended
    → Hears limit c r input result d s rest
steps_hear limit len all joined fin c d r j l u s input rest x result sum fits count is stream ended last look same still says left end after_stream after_end last_stream last_kept last_end =
    let over : s.ended ≡ r.ended = last_end ∙ after_end ∙ still ∙ ended in
    let gone : l.stream ≡ s.stream = sym after_stream ∙ sym last_stream in
    let given : Call limit c r.stream (take len (kept_of j)) fin (x.consumed, look.say, d, s.stream) =
    subst (λ t. Call limit c t (take len (kept_of j)) fin (x.consumed, look.say, d, s.stream)) stream
    (subst (λ t. Call limit c j.stream (take len (kept_of j)) fin (x.consumed, look.say, d, t)) gone look.gives) in
    let seen : LooksAt limit c r.stream (take len (kept_of j)) fin x d s.stream = record {
      say = look.say;
      gives = given;
      heard = look.heard;
      more = look.more;
    } in
    both_hear limit len all joined fin c d r s input rest (kept_of j) x result sum fits count is
    (last ∙ ap (λ e. len == all && (e || input.fin)) ended)
    seen says
    (ap (λ b. b ++ rest.bytes.now) last_kept
    ∙ left
    ∙ ap (λ b. drop x.consumed (take (length b - joined) b ++ input.bytes.now)) same)
    (ap (λ e. e || rest.fin) over ∙ ap (λ f. r.ended || f) end)

-- ---- turns

pair : (a b : List ℕ) (e f : Bool) → a ≡ b → e ≡ f → ◌≡◌ {A = Unread} (a, e) (b, f)
pair a b e f same alike =
    let at : Bool → Unread = λ g. (b, g) in
    let of : List ℕ → Unread = λ x. (x, e) in
    ap of same ∙ ap at alike

pub next_turns : (limit : ℕ) (c d : Connection) (r s : Reading) (input rest : Chunk) (result : Found)
    → Hears limit c r input result d s rest
    → (reach consumed : ℕ)
    × Leads (Reads reach consumed ∷ []) (unread r input, is_ended r input) (unread s rest, is_ended s rest)
next_turns limit c d r s input rest result h =
    let most : h.consumed ≤ length (take h.reach (unread r input)) =
    called_within limit c r.stream (take h.reach (unread r input)) (h.reach == length (unread r input) && is_ended r input) (h.consumed, h.say, d, s.stream) h.gives in
    let inside : h.consumed ≤ h.reach = le_trans most (take_short h.reach (unread r input)) in
    let same =
    pair (drop h.consumed (unread r input)) (unread s rest) (is_ended r input) (is_ended s rest) (sym h.left) (sym h.ends) in
    (h.reach, h.consumed, (h.within, inside, same))

or_again : (a b : Bool) → ((a || b) || b) ≡ (a || b)
or_again true b = refl
or_again false true = refl
or_again false false = refl

pub keep_turns : (r s : Reading) (input rest : Chunk)
    → Keeps r input s rest
    → Leads [] (unread r input, is_ended r input) (unread s rest, is_ended s rest)
keep_turns r s input rest h =
    let bytes : unread s rest ≡ unread r input =
    ap (λ b. kept_of s ++ b) h.nothing ∙ append-nil (kept_of s) ∙ h.kept in
    let end : is_ended s rest ≡ is_ended r input =
    ap (λ e. e || rest.fin) h.ended ∙ ap (λ f. is_ended r input || f) h.fin ∙ or_again r.ended input.fin in
    pair (unread r input) (unread s rest) (is_ended r input) (is_ended s rest) (sym bytes) (sym end)

pub not_both : (b : Bool) → b ≡ false → IsTrue b → ⊥
not_both b e t = search rules
