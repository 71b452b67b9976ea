-- Responses in HEADERS frames (RFC 9114, sections 4.1.2 and 4.3.2).
use Rattle.std.specs.Prelude.{◌≡◌, ◌≢◌, List, Result, Ok, Err, MatchResult}
use Rattle.wtp_core.specs.declared.error.ErrorCode.TheVariants.{FrameUnexpected, Message}
use Rattle.wtp_core.specs.declared.error.Refused.{Refused}
use Rattle.wtp_core.specs.declared.error.Refused.TheVariants.{Code, Memory}
use Rattle.wtp_wire.specs.declared.frame.kind.FrameKind.TheVariants.{Headers}
use Rattle.wtp_wire.specs.Content.{Content, PlainOf}
use Rattle.wtp_qpack.specs.Field.{Field}
use Rattle.wtp_fields.specs.Headers.{headers_at}
use Rattle.wtp_fields.specs.SessionResponse.{HasStatus}

-- The result is the map as a response, if it has a valid `:status`, and Message otherwise.
-- Allocation may fail in both cases.
abbrev pub RespondsBy : Result (List Field) Refused → Result (List Field) Refused → Type 0
RespondsBy (Ok m) result =
    MatchResult result (λ response. (response ≡ m) × HasStatus m)
    (λ e. e ≢ Memory → (e ≡ Code Message) × ¬ HasStatus m)
RespondsBy (Err refused) result = MatchResult result (λ response. ⊥) (λ e. e ≢ Memory → e ≡ refused)

-- the result is the response in a frame, or the error code
abbrev pub ResponseIn : Content → Result (List Field) Refused → Type 0
ResponseIn (PlainOf Headers payload) result = RespondsBy (headers_at payload) result
ResponseIn f result = result ≡ Err (Code FrameUnexpected)
