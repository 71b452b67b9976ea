use Rattle.std.proofs.Common.{◌≡◌, drop, map, [], true}
use Rattle.std.specs.Prelude.{◌||◌}
use Rattle.wtp_subprotocols.specs.declared.strings.State.TheVariants.{Start}
use Rattle.wtp_subprotocols.specs.Strings.{strings_after, is_started, begins_string}
use Rattle.wtp_subprotocols.proofs.strings.read_strings.Given as goal

abbrev pub invariant-loop-byte : goal.invariant-loop-byte
invariant-loop-byte l =
    (strings_after l.list l.state (map (λ v. v.items) l.values.items) l.current.items (drop l.byte-index l.text)
    ≡ strings_after l.list Start [] [] l.text)
    × ((is_started l.state || begins_string (drop l.byte-index l.text)) ≡ true → begins_string l.text ≡ true)
