-- Interim responses on a stream of a connection.
use Rattle.std.proofs.Common.{◌≡◌, ℕ, ◌+◌, ◌<◌, Bool, cond, true, false, List, [], ◌∷◌, ◌++◌, Option, Some, None, refl, sym, ap, ◌∙◌}
use Rattle.wtp_frames.specs.declared.endpoint.Side.TheVariants.{Client}
use Rattle.wtp_frames.specs.declared.fault.Fault.{Fault as StreamFault}
use Rattle.wtp_frames.specs.declared.fault.Fault.TheVariants as stream
use Rattle.wtp_frames.specs.declared.frame_type.FrameType.TheVariants as kind
use Rattle.wtp_frames.specs.declared.reader.Place.TheVariants.{Body}
use Rattle.wtp_frames.specs.declared.reader.Reader.{Reader}
use Rattle.wtp_frames.specs.Grammar.{Interim, interim_bytes, interim_section, ValidInterim}
use Rattle.wtp_frames.specs.Interim.{after_interim}
use Rattle.wtp_frames.specs.Item.{Whole}
use Rattle.wtp_frames.specs.Run.{Run, run}
use Rattle.wtp_frames.specs.Start.{awaiting, between}
use Rattle.wtp_frames.proofs.InterimLemmas.{gives_section, one_more, one_too_many}
use Rattle.wtp_connection.specs.declared.fault.Fault.TheVariants as fault
use Rattle.wtp_connection.specs.declared.connection.Connection.{Connection}
use Rattle.wtp_connection.specs.declared.stream.Stream.TheVariants.{Frames, Over}
use Rattle.wtp_connection.specs.Streams.{Gave, StreamRun, rests, followed, of_items, has_frames, of_frames, run_stream, Joined, by_interim, tells_open, tells_interim, FindsInterim}
use Rattle.wtp_connection.proofs.StreamLemmas.{or_true, frames_run}

goes_on : (b : Bool) (x y : Joined) → b ≡ false → cond b x y ≡ y
goes_on true x y e = absurd (cc)
goes_on false x y e = refl

told : (c : Connection) (r : Reader) (o : Reader × Option StreamFault) → c.over ≡ false → after_interim r ≡ o → tells_interim c (Frames r true) ≡ by_interim c true o
told c r o e is =
    goes_on c.over (c, Frames r true, None) (tells_open c (Frames r true)) e
    ∙ ap (λ (x : Reader × Option StreamFault). by_interim c true x) is

-- the section is found
section_found : (c : Connection) (i : Interim) (k : ℕ) (given : Bool) (more : List ℕ) → c.over ≡ false → ValidInterim c.endpoint.webtransport c.endpoint.max_section 0 i → run_stream c (Frames (awaiting c.endpoint k) given) (interim_bytes i ++ more) ≡ followed (Gave (Whole kind.Headers (interim_section i)) ∷ []) (run_stream c (Frames (between c.endpoint k Body false 0) true) more)
section_found c i k given more e v =
    let y : Run = run (between c.endpoint k Body false 0) more in
    frames_run c (awaiting c.endpoint k) given (interim_bytes i ++ more) e
    ∙ ap (λ (x : Run). of_frames c given x) (gives_section c.endpoint k i v more)
    ∙ ap (λ (b : Bool). followed (Gave (Whole kind.Headers (interim_section i)) ∷ []) (of_items c (λ d. rests d (Frames y.reader b) y.left) y.items)) (or_true (has_frames y.items))
    ∙ ap (λ (x : StreamRun). followed (Gave (Whole kind.Headers (interim_section i)) ∷ []) x) (sym (frames_run c (between c.endpoint k Body false 0) true more e))

pub finds_interim : (c : Connection) (i : Interim) (k : ℕ) (given : Bool) → c.over ≡ false → c.endpoint.side ≡ Client → k < 64 → ValidInterim c.endpoint.webtransport c.endpoint.max_section 0 i → FindsInterim c (Frames (awaiting c.endpoint k) given) i (c, Frames (awaiting c.endpoint (k + 1)) true, None)
finds_interim c i k given e side l v = (
  Frames (between c.endpoint k Body false 0) true,
  λ more. section_found c i k given more e v,
  told c (between c.endpoint k Body false 0) (awaiting c.endpoint (k + 1), None) e (one_more c.endpoint k side l),
)

pub finds_too_many : (c : Connection) (i : Interim) (given : Bool) → c.over ≡ false → c.endpoint.side ≡ Client → ValidInterim c.endpoint.webtransport c.endpoint.max_section 0 i → FindsInterim c (Frames (awaiting c.endpoint 64) given) i (c, Over, Some (fault.Stream stream.TooManyInterim))
finds_too_many c i given e side v = (
  Frames (between c.endpoint 64 Body false 0) true,
  λ more. section_found c i 64 given more e v,
  told c (between c.endpoint 64 Body false 0) _ e (one_too_many c.endpoint side),
)
