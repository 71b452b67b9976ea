-- A first instruction that was read, without where the bytes after it lie.
use Rattle.wtp_dynamic_encoder.specs.declared.decoder_stream.First as code
use Rattle.wtp_dynamic_encoder.specs.declared.decoder_stream.First.TheVariants as variants
use Rattle.wtp_dynamic_encoder.specs.Acknowledging.{First, Whole, Cut, Overflow}

abbrev pub first_seen : code.First → First
first_seen (variants.Whole next rest) = Whole next rest.now
first_seen variants.Cut = Cut
first_seen variants.Overflow = Overflow
