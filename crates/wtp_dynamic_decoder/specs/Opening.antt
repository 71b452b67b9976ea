-- What a decoder returns for a section of a stream.
use Rattle.std.specs.Prelude.{◌≡◌, ℕ, List}
use Rattle.wtp_dynamic_decoder.specs.declared.decoder.Opened.{Opened}
use Rattle.wtp_dynamic_decoder.specs.declared.decoder.Opened.TheVariants.{Lines, Blocked}
use Rattle.wtp_dynamic_decoder.specs.Decoder.{Decoder, IsOpened, IsWaiting}

-- its lines, none of which was read, or how many insertions it needs
abbrev pub OpensAs : ℕ → List ℕ → Decoder → Decoder → Opened → Type 0
OpensAs stream section old new (Lines lines) =
    IsOpened stream section old new lines.0 × (lines.1 ≡ lines.0.lines)
OpensAs stream section old new (Blocked required) = IsWaiting stream section old new required
