-- The first session that is open.
use Rattle.std.proofs.Common.{◌≡◌, ◌≤◌, ◌<◌, ◌+◌, ◌/◌, ◌%◌, ◌==◌, ℕ, None, Some, Bool, true, false, cond, refl, arith, subst}
use Rattle.std.specs.Prelude.{◌^◌, nat_lt, is_ok, Result, Ok, Err}
use Rattle.wtp_frames.specs.declared.endpoint.Side.{Side}
use Rattle.wtp_frames.specs.declared.endpoint.Side.TheVariants.{Client, Server}
use Rattle.wtp_connection.specs.declared.requests.Beginning.{Beginning}
use Rattle.wtp_connection.specs.declared.requests.Beginning.TheVariants as beginning
use Rattle.wtp_connection.specs.declared.requests.Begun.{Begun}
use Rattle.wtp_connection.specs.Requests.{beginning_at}
use Rattle.wtp_connection.specs.Streams.{known_by as known_by_begun, known_at}
use Rattle.wtp_connection.specs.declared.connection.Known.{Known}
use Rattle.wtp_connection.specs.declared.connection.Known.TheVariants as known
use Rattle.vesgrauf.specs.declared.connection.Connection.{Connection}
use Rattle.vesgrauf.specs.declared.refused.Refused.{Refused}
use Rattle.vesgrauf.specs.declared.refused.Refused.TheVariants as refused
use Rattle.vesgrauf.specs.State.{stream_at, open_of, open_session, known_by, known_else, known_in, is_over}
use Rattle.vesgrauf.specs.Order.{NoneOpen, IsFirstOpen}

open_is : (k : Known) → open_of k ≡ Ok tt → k ≡ known.Open
open_is known.Open h = refl
open_is known.Over h = absurd (let bad : Err refused.SessionGone ≡ Ok tt = h in cc)
open_is known.Refused h = absurd (let bad : Err refused.SessionGone ≡ Ok tt = h in cc)
open_is known.Coming h = absurd (let bad : Err refused.NotOpen ≡ Ok tt = h in cc)
open_is known.Other h = absurd (let bad : Err refused.NotOpen ≡ Ok tt = h in cc)
open_is known.Impossible h = absurd (let bad : Err refused.NotOpen ≡ Ok tt = h in cc)

-- no session is open of which no stream is left
begun_not : (b : Beginning) → known_by_begun b ≡ known.Open → ⊥
begun_not beginning.Begun h = let bad : known.Over ≡ known.Open = h in cc
begun_not beginning.NotBegun h = let bad : known.Coming ≡ known.Open = h in cc
begun_not beginning.Lost h = let bad : known.Refused ≡ known.Open = h in cc

at_server : (b : Bool) (x : Beginning) → cond b (known_by_begun x) known.Impossible ≡ known.Open → ⊥
at_server true x h = begun_not x h
at_server false x h = let bad : known.Impossible ≡ known.Open = h in cc

begun_at : (s : Side) (b : Begun) (k : ℕ) → known_at s b k ≡ known.Open → ⊥
begun_at Client b k h = let bad : known.Impossible ≡ known.Open = h in cc
begun_at Server b k h = at_server (k % 4 == 0) (beginning_at b (k / 4)) h

at_client : (b : Bool) → cond b known.Over known.Impossible ≡ known.Open → ⊥
at_client true h = let bad : known.Over ≡ known.Open = h in cc
at_client false h = let bad : known.Impossible ≡ known.Open = h in cc

else_not : (s : Side) (c : Connection) (k : ℕ) → known_else s c k ≡ known.Open → ⊥
else_not Server c k h = begun_at c.shared.streams.endpoint.side c.shared.streams.begun k h
else_not Client c k h = at_client _ h

pub open_by : (b : Bool) (k : Known) → cond b (Err refused.Closed) (open_of k) ≡ Ok tt → k ≡ known.Open
open_by true k h = absurd (let bad : Err refused.Closed ≡ Ok tt = h in cc)
open_by false k h = open_is k h

pub gone_not_open : (c : Connection) (k : ℕ) → stream_at c k ≡ None → open_session c k ≡ Ok tt → ⊥
gone_not_open c k g h =
    let o : known_by (stream_at c k) c k ≡ known.Open = open_by (is_over c) (known_in c k) h in
    let e : known_by None c k ≡ known.Open = subst (λ x. known_by x c k ≡ known.Open) g o in
    else_not c.config.side c k e

pub none_at_start : (c : Connection) (from : ℕ) → NoneOpen c from from
none_at_start c from k a b h = absurd (omega (arith, a, b))

below : (a b : ℕ) → nat_lt a b ≡ true → a < b
below a b h = grind (arith, h)

above : (a b : ℕ) → nat_lt a b ≡ false → b ≤ a
above a b h = grind (arith, h)

is_last : (k id : ℕ) → k < id + 1 → id ≤ k → k ≡ id
is_last k id l m = omega (arith, l, m)

next_by : (c : Connection) (from cursor id k : ℕ) (a b : Bool) → nat_lt k cursor ≡ a → nat_lt k id ≡ b
    → NoneOpen c from cursor → ((j : ℕ) → cursor ≤ j → j < id → stream_at c j ≡ None)
    → (open_session c id ≡ Ok tt → ⊥) → from ≤ k → k < id + 1 → open_session c k ≡ Ok tt → ⊥
next_by c from cursor id k true b p q none gone shut f l h = none k f (below k cursor p) h
next_by c from cursor id k false true p q none gone shut f l h =
    gone_not_open c k (gone k (above k cursor p) (below k id q)) h
next_by c from cursor id k false false p q none gone shut f l h =
    shut (subst (λ n. open_session c n ≡ Ok tt) (is_last k id l (above k id q)) h)

ok_is : (r : Result (Unit {0}) Refused) → is_ok r ≡ true → r ≡ Ok tt
ok_is (Ok u) h = refl
ok_is (Err e) h = absurd (let bad : false ≡ true = h in cc)

no_ok : (r : Result (Unit {0}) Refused) → is_ok r ≡ false → r ≡ Ok tt → ⊥
no_ok (Ok u) h e = let bad : true ≡ false = h in cc
no_ok (Err e) h p = let bad : Err e ≡ Ok tt = p in cc

-- the next stream is no open session
pub none_after : (c : Connection) (from cursor id next : ℕ) → NoneOpen c from cursor
    → ((j : ℕ) → cursor ≤ j → j < id → stream_at c j ≡ None) → is_ok (open_session c id) ≡ false → next ≡ id + 1
    → NoneOpen c from next
none_after c from cursor id next none gone shut e k f l h =
    next_by c from cursor id k (nat_lt k cursor) (nat_lt k id) refl refl none gone (no_ok (open_session c id) shut) f
    (subst (λ n. k < n) e l) h

none_by : (c : Connection) (from cursor id k : ℕ) (a : Bool) → nat_lt k cursor ≡ a → NoneOpen c from cursor
    → ((j : ℕ) → cursor ≤ j → j < id → stream_at c j ≡ None) → from ≤ k → k < id → open_session c k ≡ Ok tt → ⊥
none_by c from cursor id k true p none gone f l h = none k f (below k cursor p) h
none_by c from cursor id k false p none gone f l h = gone_not_open c k (gone k (above k cursor p) l) h

-- it is the first that is open
pub first_open : (c : Connection) (from cursor id : ℕ) → NoneOpen c from cursor → from ≤ cursor → cursor ≤ id
    → ((j : ℕ) → cursor ≤ j → j < id → stream_at c j ≡ None) → is_ok (open_session c id) ≡ true
    → IsFirstOpen c from (Some id)
first_open c from cursor id none f l gone h = (
  omega (arith, f, l),
  ok_is (open_session c id) h,
  λ k g m o. none_by c from cursor id k (nat_lt k cursor) refl none gone g m o,
)

last_by : (c : Connection) (from cursor k : ℕ) (a : Bool) → nat_lt k cursor ≡ a → NoneOpen c from cursor
    → ((j : ℕ) → cursor ≤ j → stream_at c j ≡ None) → from ≤ k → open_session c k ≡ Ok tt → ⊥
last_by c from cursor k true p none gone f h = none k f (below k cursor p) h
last_by c from cursor k false p none gone f h = gone_not_open c k (gone k (above k cursor p)) h

-- no stream is left
pub none_open : (c : Connection) (from cursor : ℕ) → NoneOpen c from cursor
    → ((j : ℕ) → cursor ≤ j → stream_at c j ≡ None) → IsFirstOpen c from None
none_open c from cursor none gone k f l h = last_by c from cursor k (nat_lt k cursor) refl none gone f h

-- no ID is left
pub none_left : (c : Connection) (from to : ℕ) → NoneOpen c from to → 2 ^ 64 ≤ to → IsFirstOpen c from None
none_left c from to none m k f l h = none k f (omega (arith, l, m)) h
