-- The encoder and the decoder that commands begin.
use Rattle.std.specs.Prelude.{ℕ, []}
use Rattle.wtp_dynamic.specs.Table.{empty_table}
use Rattle.wtp_dynamic_encoder.specs.declared.proposal.Policy.{Policy}
use Rattle.wtp_dynamic_encoder.specs.Encoding.{State, Runs as EncoderRuns}
use Rattle.wtp_dynamic_decoder.specs.Decoder.{Decoder, Runs as DecoderRuns}

-- an encoder by the decoder's settings and a policy, with an empty table
abbrev pub encoder_of : (limit most : ℕ) → Policy → State
encoder_of limit most policy = record {
  table = empty_table limit;
  ledger = (0, []);
  progress = EncoderRuns [];
  most = most;
  policy = policy;
}

-- a decoder by its settings, with an empty table
abbrev pub decoder_of : (limit most : ℕ) → Decoder
decoder_of limit most = record {
  table = empty_table limit;
  progress = DecoderRuns [];
  known = 0;
  waiting = [];
  most = most;
}
