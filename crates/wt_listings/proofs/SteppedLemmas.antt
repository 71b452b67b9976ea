-- Listings of frames that are read poll by poll.
use Rattle.std.specs.List.{flat_map}
use Rattle.std.specs.Prelude.{codes, Result, Ok, Err, IfOk}
use Rattle.std.proofs.Common.{◌≡◌, ◌⊎◌, ℕ, ◌+◌, ◌^◌, ◌<◌, ◌≤◌, Bool, true, List, [], ◌++◌, length, drop, inl, inr, refl, sym, ap, ◌∙◌, arith, append_assoc}
use Rattle.std.proofs.lemmas.Fmt.{decimal_digit}
use Rattle.std.proofs.lemmas.Grind.{flat_map-append}
use Rattle.wtransport_proto.specs.declared.bytes.error.IoReadError as bytes
use Rattle.wtransport_proto.specs.declared.bytes.error.IoReadError.TheVariants as io
use Rattle.wtransport_proto.specs.declared.stream.error.IoReadError.{IoReadError}
use Rattle.wtransport_proto.specs.declared.stream.error.IoReadError.TheVariants as stream
use Rattle.wtransport_proto.specs.declared.stream.driving.Driven.{Driven}
use Rattle.wtransport_proto.specs.declared.stream.driving.Driven.TheVariants as driven
use Rattle.wtransport_proto.specs.Content.{Content}
use Rattle.wtransport_proto.specs.Driving.{DriveDid, RunsOn, after}
use Rattle.wtransport_proto.specs.Held.{Held, new_held}
use Rattle.wtransport_proto.specs.HeldRun.{run_of, size_of}
use Rattle.wtransport_proto.specs.Rule.{Role, RemoteBi}
use Rattle.wtransport_proto.specs.Run.{Run, Ending, Open, ImmediateFin, Ended, run}
use Rattle.wtransport_proto.specs.StreamPolling.{IsStreamFault, EndsWithFault}
use Rattle.wtransport_proto.proofs.HeldRunLemmas.{run_new}
use Rattle.wt_listings.specs.declared.listing.Listing.{Listing}
use Rattle.wt_listings.specs.CutSource.{source_of}
use Rattle.wt_listings.specs.Lines.{line, last_line, run_listing, text_of, ending_status, with_ending}
use Rattle.wt_listings.specs.Listing.{HasText}
use Rattle.wt_listings.specs.Stepped.{stepped_run}
use Rattle.wt_listings.specs.Stepped.{ClosesStream}
use Rattle.wt_listings.proofs.ListingLemmas.{IsBegun}

-- ---- the last line

-- the end of a stream after a frame has the same line as a listing with no bytes left
pub says_end : (E : Type 0) (r : Result Listing E) (lines : List ℕ) → IfOk r (λ l. HasText l (with_ending lines (Open 0))) → IfOk r (λ l. HasText l (with_ending lines ImmediateFin))
says_end E (Ok l) lines says = record {
  text = says.text ∙ ap (λ (zero : List ℕ). lines ++ (codes "END " ++ zero ++ codes "\n")) (decimal_digit 0 (omega arith));
  status = says.status;
}
says_end E (Err e) lines says = tt

pub is_end : (x : IoReadError) (fault : bytes.IoReadError) (e : Ending) → x ≡ stream.IO fault → ClosesStream x → IsStreamFault x e → e ≡ ImmediateFin
is_end (stream.H3 code) fault e is closes h = absurd (cc)
is_end (stream.IO io.ImmediateFin) fault e is closes h = h
is_end (stream.IO io.UnexpectedFin) fault e is closes h = absurd closes
is_end (stream.IO io.Reset) fault e is closes h = absurd closes
is_end (stream.IO io.NotConnected) fault e is closes h = absurd closes

-- ---- the lines of the frames of one drive

lines_after : (text : List ℕ) (fs : List Content) (r : Run) → (text ++ flat_map line fs) ++ text_of r ≡ text ++ text_of (after fs r)
lines_after text fs r =
    append_assoc text (flat_map line fs) (text_of r)
    ∙ ap (λ (x : List ℕ). text ++ x) (sym (append_assoc (flat_map line fs) (flat_map line r.frames) (last_line r.ending)) ∙ ap (λ (x : List ℕ). x ++ last_line r.ending) (sym (flat_map-append line fs r.frames)))

pub begun_lines : (text items : List ℕ) (fs : List Content) (r left whole : Run) → IsBegun text left whole → left ≡ after fs r → items ≡ text ++ flat_map line fs → IsBegun items r whole
begun_lines text items fs r left whole begun is grown = record {
  lines = rw grown (lines_after text fs r ∙ ap (λ (x : Run). text ++ text_of x) (sym is) ∙ begun.lines);
  ending = ap (λ (x : Run). x.ending) (sym is) ∙ begun.ending;
}

-- the list of frames was empty before the drive
pub lines_of_all : (text items : List ℕ) (old new shown : List Content) → old ≡ [] → shown ≡ new → items ≡ text ++ flat_map line shown → items ≡ text ++ flat_map line (drop (length old) new)
lines_of_all text items old new shown none same grown = rw (none, ← same) grown

-- before the first drive, the whole run is left
pub begun_whole : (items : List ℕ) (first : Bool) (h : Held) (bytes : List ℕ) (left : ℕ) (input : List ℕ) → items ≡ [] → first ≡ true → h ≡ new_held → bytes ≡ input → IsBegun items (run_of RemoteBi first h (source_of bytes left)) (stepped_run input)
begun_whole items first h bytes left input none is_first fresh same =
    let is : run_of RemoteBi first h (source_of bytes left) ≡ run RemoteBi true input Ended = run_new RemoteBi first h (source_of bytes left) fresh ∙ rw (is_first, same) refl in
    rw (none, is) (record { lines = refl; ending = refl })

-- after the last drive, only the last line is left
says_whole : (l : Listing) (text items : List ℕ) (fs : List Content) (x : IoReadError) (left whole : Run) → IsBegun text left whole → EndsWithFault left fs x → items ≡ text ++ flat_map line fs
    → HasText l (with_ending items left.ending) → HasText l (run_listing whole)
says_whole l text items fs x left whole begun ends grown says = record {
  text = says.text ∙ ap (λ (y : List ℕ). y ++ last_line left.ending) grown
      ∙ append_assoc text (flat_map line fs) (last_line left.ending)
      ∙ ap (λ (gs : List Content). text ++ (flat_map line gs ++ last_line left.ending)) (sym ends.frames)
      ∙ begun.lines;
  status = says.status ∙ ap ending_status begun.ending;
}

pub says_listed : (E : Type 0) (r : Result Listing E) (text items : List ℕ) (fs : List Content) (x : IoReadError) (left whole : Run) → IsBegun text left whole → EndsWithFault left fs x → items ≡ text ++ flat_map line fs
    → IfOk r (λ l. HasText l (with_ending items left.ending)) → IfOk r (λ l. HasText l (run_listing whole))
says_listed E (Ok l) text items fs x left whole begun ends grown says = says_whole l text items fs x left whole begun ends grown says
says_listed E (Err e) text items fs x left whole begun ends grown says = tt

-- ---- the effect of a drive that must be called again

pub goes_on : (d : Driven) (role : Role) (first next : Bool) (old new : Held) (fs : List Content) (polls : ℕ) (xs ys : List ℕ) (m n : ℕ) → (d ≡ driven.Waiting) ⊎ (d ≡ driven.Spent)
    → DriveDid role d first next old new fs polls (source_of xs m) (source_of ys n) → RunsOn role first next old new fs (source_of xs m) (source_of ys n)
goes_on d role first next old new fs polls xs ys m n (inl e) did = let h = rw e at did in h.0
goes_on d role first next old new fs polls xs ys m n (inr e) did = let h = rw e at did in h.0

-- the drive waited, or consumed bytes
pub less_left : (d : Driven) (role : Role) (first next : Bool) (old new : Held) (fs : List Content) (polls : ℕ) (xs ys : List ℕ) (m n : ℕ) → (d ≡ driven.Waiting) ⊎ (d ≡ driven.Spent) → 0 < polls → m < 2 ^ 64
    → DriveDid role d first next old new fs polls (source_of xs m) (source_of ys n) → (n ≤ m) × (n + size_of new (source_of ys n) < m + size_of old (source_of xs m))
less_left d role first next old new fs polls xs ys m n (inl e) some fits did = let h = rw e at did in let waited = h.1 in let size = h.2.size in (omega arith, omega arith)
less_left d role first next old new fs polls xs ys m n (inr e) some fits did = let h = rw e at did in let taken = h.1 in let waits = h.2.asks.waits in (omega arith, omega arith)
