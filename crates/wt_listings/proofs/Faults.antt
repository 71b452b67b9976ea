-- What holds after a fault of the program.
use Rattle.std.proofs.Common.{◌≡◌, ℕ, ◌<◌, ◌≤◌, List, ◌++◌, length, take, Option, IfSome, Some, None, inl, inr, arith, length-append, length-take}
use Rattle.std.specs.Io.KnownBytes.{Consumes, Keeps, IsAtEnd}
use Rattle.wt_listings.specs.declared.program.arguments.Command.{Command}
use Rattle.wt_listings.specs.declared.program.Fault.{Fault}
use Rattle.wt_listings.specs.declared.program.Fault.TheVariants.{Usage, InputTooLong, ReadFault, WriteFault, NoMemory}
use Rattle.wt_listings.specs.Program.{listing_of, AppendsStart, FailsBy, Names, ReadFails, TakesFew, TakesSome, TakesTooMany}
use Rattle.wt_listings.proofs.Known.{consumes_keeps, consumes_then}

-- the next read failed
pub failed : (a b c : Option (List ℕ)) (xs : List ℕ) → Consumes a b xs → Keeps b c → length xs ≤ 1048576 → TakesFew a c
failed a b c xs p q few = (xs, consumes_keeps a b c xs p q, few)

-- what the next read gave found no memory
pub unstored : (a b c : Option (List ℕ)) (xs chunk : List ℕ) (n : ℕ) → Consumes a b xs → Consumes b c (take n chunk) → length xs ≤ 1048576
    → 0 < n → n ≤ length chunk → length chunk ≡ 4096 → TakesSome a c
unstored a b c xs chunk n p q few some fits whole =
    let size : length (take n chunk) ≡ n = omega (arith, length-take n chunk, fits) in
    (xs ++ take n chunk, consumes_then a b c xs (take n chunk) p q, (omega (arith, length-append xs (take n chunk), size, some), omega (arith, length-append xs (take n chunk), size, few, fits, whole)))

-- with what the next read gave there is too much
pub too_much : (a b c : Option (List ℕ)) (xs chunk : List ℕ) (n : ℕ) → Consumes a b xs → Consumes b c (take n chunk) → length xs ≤ 1048576
    → 1048576 < length (xs ++ take n chunk) → n ≤ length chunk → length chunk ≡ 4096 → TakesTooMany a c
too_much a b c xs chunk n p q few many fits whole =
    let size : length (take n chunk) ≡ n = omega (arith, length-take n chunk, fits) in
    (xs ++ take n chunk, consumes_then a b c xs (take n chunk) p q, (many, omega (arith, length-append xs (take n chunk), size, few, fits, whole)))

too_long : (a b : Option (List ℕ)) → TakesTooMany a b → IfSome a (λ bytes. 1048576 < length bytes)
too_long None b p = tt
too_long (Some s) None (taken, p, size) = absurd p
too_long (Some s) (Some t) (taken, p, size) = rw p (omega (arith, length-append taken t, size.0))

-- ---- faults of a run

-- the input could not be read
pub in_reading : (fault : Fault) (command : Command) (arguments : List (List ℕ)) (a b x y : Option (List ℕ)) → Names arguments command → ReadFails fault a b → FailsBy fault arguments a b x y
in_reading Usage command arguments a b x y named p = absurd p
in_reading InputTooLong command arguments a b x y named p = ((command, named), p, too_long a b p)
in_reading ReadFault command arguments a b x y named p = ((command, named), p)
in_reading WriteFault command arguments a b x y named p = absurd p
in_reading NoMemory command arguments a b x y named p = ((command, named), inl p)

-- there is no memory for the listing
pub in_listing : (command : Command) (arguments : List (List ℕ)) (a b x y : Option (List ℕ)) → Names arguments command → IfSome a (λ bytes. length bytes ≤ 1048576) → IsAtEnd b → FailsBy NoMemory arguments a b x y
in_listing command arguments a b x y named few ended = ((command, named), inr (command, named, few, ended))

-- the start of a listing, where a write failed
write_start-if : (command : Command) (a x y : Option (List ℕ)) (input text : List ℕ) → IfSome a (λ bytes. input ≡ bytes) → length input ≤ 1048576 → text ≡ (listing_of command input).text → AppendsStart text x y
    → IfSome a (λ bytes. (length bytes ≤ 1048576) × AppendsStart (listing_of command bytes).text x y)
write_start-if command None x y input text whole few is p = tt
write_start-if command (Some bytes) x y input text whole few is p = rw (← whole) (few, rw (← is) p)

pub in_writing : (command : Command) (arguments : List (List ℕ)) (a b x y : Option (List ℕ)) (input text : List ℕ) → Names arguments command → IfSome a (λ bytes. input ≡ bytes) → length input ≤ 1048576 → IsAtEnd b
    → text ≡ (listing_of command input).text → AppendsStart text x y → FailsBy WriteFault arguments a b x y
in_writing command arguments a b x y input text named whole few ended is p = (command, named, write_start-if command a x y input text whole few is p, ended)
