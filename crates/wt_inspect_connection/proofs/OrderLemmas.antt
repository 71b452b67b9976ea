-- The derived order of parts is the order in which they are shown.
use Rattle.std.proofs.Common.{◌≡◌, ℕ, ◌==◌, ◌&&◌, ◌||◌, nat_lt, Bool, true, false, cond, List, [], ◌∷◌, refl, sym, ap, ◌∙◌, ◌+◌, slice_index_or, Ordering, Less, Equal, Greater}
use Rattle.std.specs.List.Sorted.{IsSorted, IsSortedBy}
use Rattle.std.specs.Ordering.{is_lt, nat_cmp, ordering_then}
use Rattle.wt_inspect_connection.specs.declared.list.Sender.{Sender}
use Rattle.wt_inspect_connection.specs.declared.list.Sender.TheVariants as sender-is
use Rattle.wt_inspect_connection.specs.declared.part.Group.{Group}
use Rattle.wt_inspect_connection.specs.declared.part.Group.TheVariants as group-is
use Rattle.wt_inspect_connection.specs.declared.part.Part.{Part}
use Rattle.wt_inspect_connection.specs.declared.part.Role.{Role}
use Rattle.wt_inspect_connection.specs.declared.part.Role.TheVariants as role-is
use Rattle.wt_inspect_connection.specs.contracts.list.SenderOrd.TheImpl as sender
use Rattle.wt_inspect_connection.specs.contracts.part.GroupOrd.TheImpl as group
use Rattle.wt_inspect_connection.specs.contracts.part.PartOrd.TheImpl as part
use Rattle.wt_inspect_connection.specs.contracts.part.RoleOrd.TheImpl as role
use Rattle.wt_inspect_connection.specs.Parts.{group_rank, group_id, role_rank, sender_rank, ranks_of, is_below, is_before}

-- ---- the derived orders of its fields

group_is : (g h : Group) → group.cmp-value.it g h ≡ ordering_then (nat_cmp (group_rank g) (group_rank h)) (nat_cmp (group_id g) (group_id h))
group_is group-is.Control group-is.Control = refl
group_is group-is.Control group-is.Qpack = refl
group_is group-is.Control (group-is.Session j) = refl
group_is group-is.Control (group-is.Request j) = refl
group_is group-is.Control group-is.Other = refl
group_is group-is.Qpack group-is.Control = refl
group_is group-is.Qpack group-is.Qpack = refl
group_is group-is.Qpack (group-is.Session j) = refl
group_is group-is.Qpack (group-is.Request j) = refl
group_is group-is.Qpack group-is.Other = refl
group_is (group-is.Session i) group-is.Control = refl
group_is (group-is.Session i) group-is.Qpack = refl
group_is (group-is.Session i) (group-is.Session j) = refl
group_is (group-is.Session i) (group-is.Request j) = refl
group_is (group-is.Session i) group-is.Other = refl
group_is (group-is.Request i) group-is.Control = refl
group_is (group-is.Request i) group-is.Qpack = refl
group_is (group-is.Request i) (group-is.Session j) = refl
group_is (group-is.Request i) (group-is.Request j) = refl
group_is (group-is.Request i) group-is.Other = refl
group_is group-is.Other group-is.Control = refl
group_is group-is.Other group-is.Qpack = refl
group_is group-is.Other (group-is.Session j) = refl
group_is group-is.Other (group-is.Request j) = refl
group_is group-is.Other group-is.Other = refl

role_is : (r s : Role) → role.cmp-value.it r s ≡ nat_cmp (role_rank r) (role_rank s)
role_is role-is.Message role-is.Message = refl
role_is role-is.Message role-is.Stream = refl
role_is role-is.Message role-is.Datagram = refl
role_is role-is.Stream role-is.Message = refl
role_is role-is.Stream role-is.Stream = refl
role_is role-is.Stream role-is.Datagram = refl
role_is role-is.Datagram role-is.Message = refl
role_is role-is.Datagram role-is.Stream = refl
role_is role-is.Datagram role-is.Datagram = refl

sender_is : (a b : Sender) → sender.cmp-value.it a b ≡ nat_cmp (sender_rank a) (sender_rank b)
sender_is sender-is.Client sender-is.Client = refl
sender_is sender-is.Client sender-is.Server = refl
sender_is sender-is.Server sender-is.Client = refl
sender_is sender-is.Server sender-is.Server = refl

-- ---- numbers one after the other

then_assoc : (x y z : Ordering) → ordering_then (ordering_then x y) z ≡ ordering_then x (ordering_then y z)
then_assoc Less y z = refl
then_assoc Equal y z = refl
then_assoc Greater y z = refl

by_tests : (b c : Bool) (o : Ordering) → is_lt (ordering_then (cond b Less (cond c Equal Greater)) o) ≡ (b || (c && is_lt o))
by_tests true c o = refl
by_tests false true o = refl
by_tests false false o = refl

last_tests : (b c : Bool) → is_lt (cond b Less (cond c Equal Greater)) ≡ (b || (c && false))
last_tests true c = refl
last_tests false true = refl
last_tests false false = refl

first_number : (m n : ℕ) (o : Ordering) (ms ns : List ℕ) → is_lt o ≡ is_below ms ns → is_lt (ordering_then (nat_cmp m n) o) ≡ is_below (m ∷ ms) (n ∷ ns)
first_number m n o ms ns h = by_tests (nat_lt m n) (m == n) o ∙ ap (λ (b : Bool). nat_lt m n || (m == n && b)) h

last_number : (m n : ℕ) → is_lt (nat_cmp m n) ≡ is_below (m ∷ []) (n ∷ [])
last_number m n = last_tests (nat_lt m n) (m == n)

-- ---- parts

abbrev compared : Part → Part → Ordering
compared a b =
    ordering_then (group.cmp-value.it a.group b.group)
    (ordering_then (role.cmp-value.it a.role b.role)
    (ordering_then (nat_cmp a.id b.id)
    (ordering_then (sender.cmp-value.it a.sender b.sender) (nat_cmp a.index b.index))))

compared_is : (a b : Part) → part.cmp-value.it a b ≡ compared a b
compared_is a b = refl

by_numbers : Part → Part → Ordering
by_numbers a b =
    ordering_then (nat_cmp (group_rank a.group) (group_rank b.group))
    (ordering_then (nat_cmp (group_id a.group) (group_id b.group))
    (ordering_then (nat_cmp (role_rank a.role) (role_rank b.role))
    (ordering_then (nat_cmp a.id b.id)
    (ordering_then (nat_cmp (sender_rank a.sender) (sender_rank b.sender)) (nat_cmp a.index b.index)))))

numbers_are : (a b : Part) → compared a b ≡ by_numbers a b
unfolding by_numbers
numbers_are a b =
    rw (group_is a.group b.group, role_is a.role b.role, sender_is a.sender b.sender)
    (then_assoc (nat_cmp (group_rank a.group) (group_rank b.group)) (nat_cmp (group_id a.group) (group_id b.group))
    (ordering_then (nat_cmp (role_rank a.role) (role_rank b.role))
    (ordering_then (nat_cmp a.id b.id)
    (ordering_then (nat_cmp (sender_rank a.sender) (sender_rank b.sender)) (nat_cmp a.index b.index)))))

below_is : (a b : Part) → is_lt (by_numbers a b) ≡ is_before a b
unfolding by_numbers
below_is a b =
    let index : is_lt (nat_cmp a.index b.index) ≡ is_below (a.index ∷ []) (b.index ∷ []) = last_number a.index b.index in
    let sender = first_number (sender_rank a.sender) (sender_rank b.sender) (nat_cmp a.index b.index) (a.index ∷ []) (b.index ∷ []) index in
    let id = first_number a.id b.id (ordering_then (nat_cmp (sender_rank a.sender) (sender_rank b.sender)) (nat_cmp a.index b.index)) (sender_rank a.sender ∷ a.index ∷ []) (sender_rank b.sender ∷ b.index ∷ []) sender in
    let role = first_number (role_rank a.role) (role_rank b.role) (ordering_then (nat_cmp a.id b.id) (ordering_then (nat_cmp (sender_rank a.sender) (sender_rank b.sender)) (nat_cmp a.index b.index))) (a.id ∷ sender_rank a.sender ∷ a.index ∷ []) (b.id ∷ sender_rank b.sender ∷ b.index ∷ []) id in
    let among = first_number (group_id a.group) (group_id b.group) (ordering_then (nat_cmp (role_rank a.role) (role_rank b.role)) (ordering_then (nat_cmp a.id b.id) (ordering_then (nat_cmp (sender_rank a.sender) (sender_rank b.sender)) (nat_cmp a.index b.index)))) (role_rank a.role ∷ a.id ∷ sender_rank a.sender ∷ a.index ∷ []) (role_rank b.role ∷ b.id ∷ sender_rank b.sender ∷ b.index ∷ []) role in
    first_number (group_rank a.group) (group_rank b.group) (ordering_then (nat_cmp (group_id a.group) (group_id b.group)) (ordering_then (nat_cmp (role_rank a.role) (role_rank b.role)) (ordering_then (nat_cmp a.id b.id) (ordering_then (nat_cmp (sender_rank a.sender) (sender_rank b.sender)) (nat_cmp a.index b.index))))) (group_id a.group ∷ role_rank a.role ∷ a.id ∷ sender_rank a.sender ∷ a.index ∷ []) (group_id b.group ∷ role_rank b.role ∷ b.id ∷ sender_rank b.sender ∷ b.index ∷ []) among

before_is : (a b : Part) → is_lt (part.cmp-value.it a b) ≡ is_before a b
before_is a b = ap (λ (o : Ordering). is_lt o) (compared_is a b ∙ numbers_are a b) ∙ below_is a b

-- what is sorted by the derived order is in the order in which it is shown
pub sorted_before : (parts : List Part) → IsSorted part.cmp-value.it parts → IsSortedBy is_before parts
sorted_before parts sorted =
    λ k d low high.
    sym (before_is (slice_index_or parts (k + 1) d) (slice_index_or parts k d)) ∙ sorted k d low high
