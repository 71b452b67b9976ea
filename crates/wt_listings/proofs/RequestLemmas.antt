-- The listing of a request, by the result of reading the first frame.
use Rattle.std.proofs.Common.{◌≡◌, Bool, true, List, ℕ, [], length, Option, Some, None, Ok, Err, refl}
use Rattle.wtransport_proto.specs.declared.error.ErrorCode.{ErrorCode}
use Rattle.wtransport_proto.specs.Content.{Content}
use Rattle.wtransport_proto.specs.Reading.{AnswersRun, ReaderIsAfter}
use Rattle.wtransport_proto.specs.Rule.{RemoteBi}
use Rattle.wtransport_proto.specs.Run.{Open, H3}
use Rattle.wtransport_proto.specs.SessionRequest.{request_in}
use Rattle.wt_listings.specs.Request.{fields_listing, result_listing, request_listing}

-- a frame, and the bytes after it
pub listing_of_frame : (first next : Bool) (input old left : List ℕ) (o : Option Content) (f : Content) (rest : ℕ)
    → first ≡ true → old ≡ input → o ≡ Some f → rest ≡ length left
    → AnswersRun RemoteBi first old (Ok o) next left → ReaderIsAfter RemoteBi first old (Ok o) next left → request_listing input ≡ result_listing (request_in f) rest
unfolding request_listing
listing_of_frame first next input old left o f rest is whole some size answer stands =
    let found = rw (some, is, whole) at answer in
    let place = rw (some, is, whole) at stands in
    rw (found, place.0, size) refl

-- no frame, from bytes that may continue
pub listing_of_none : (first next : Bool) (input old left : List ℕ) (o : Option Content) (rest : ℕ)
    → first ≡ true → old ≡ input → o ≡ None → rest ≡ length left
    → AnswersRun RemoteBi first old (Ok o) next left → request_listing input ≡ fields_listing [] (Open rest)
unfolding request_listing
listing_of_none first next input old left o rest is whole none size answer =
    let found = rw (none, is, whole) at answer in
    rw (found.0, size, found.1) refl

-- an error
pub listing_of_fault : (first next : Bool) (input old left : List ℕ) (c : ErrorCode)
    → first ≡ true → old ≡ input
    → AnswersRun RemoteBi first old (Err c) next left → request_listing input ≡ fields_listing [] (H3 c)
unfolding request_listing
listing_of_fault first next input old left c is whole answer =
    let found = rw (is, whole) at answer in
    rw found.0 refl
