-- A piece that is heard at once.
use Rattle.std.proofs.Common.{◌≡◌, ◌≤◌, ℕ, List, [], ◌∷◌, length, drop, refl, arith}
use Rattle.wtp_webtransport.specs.declared.connection.Connection.{Connection}
use Rattle.wtp_webtransport.specs.declared.stream.Part.{Part}
use Rattle.wtp_webtransport.specs.declared.stream.Part.TheVariants as part
use Rattle.wtp_webtransport.specs.Ahead.{piece_of as told_piece, GivesPiece}
use Rattle.vesgrauf_stream.specs.declared.bytes.Bytes.{Bytes}
use Rattle.vesgrauf_stream.specs.declared.bytes.Chunk.{Chunk}
use Rattle.vesgrauf_stream.specs.declared.reading.Reading.{Reading}
use Rattle.vesgrauf_stream.specs.Reading.{bytes_of, told_in, without_payload, kept_of, is_ended}
use Rattle.vesgrauf_stream.specs.Pieces.{heard_piece, HearsPiece}
use Rattle.vesgrauf_stream.proofs.ReadingLemmas.{input_hears}

heard_told : (p : Part) (piece : Bytes) → told_in (heard_piece p piece) ≡ without_payload (told_piece p (bytes_of piece))
heard_told part.OfSession piece = refl
heard_told other piece = refl

pub none_left : (l : List ℕ) → length l ≤ 0 → l ≡ []
none_left [] h = refl
none_left (x ∷ l) h = absurd (omega (arith, h))

pub piece_heard : (c d : Connection) (r s : Reading) (input rest : Chunk) (piece : Bytes) (consumed : ℕ)
    → kept_of r ≡ []
    → GivesPiece consumed (bytes_of piece) c r.stream input.bytes.now d s.stream
    → kept_of s ≡ kept_of r
    → s.ended ≡ r.ended
    → rest.bytes.now ≡ drop consumed input.bytes.now
    → rest.fin ≡ input.fin
    → HearsPiece piece c r input d s rest
piece_heard c d r s input rest piece consumed empty gives kept ended bytes end limit =
    input_hears limit (is_ended r input) c d r s input rest (told_piece r.stream.part (bytes_of piece)) (heard_piece r.stream.part piece) consumed empty refl (gives limit (is_ended r input)) (heard_told r.stream.part piece) kept ended bytes end
