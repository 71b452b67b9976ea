-- What is sent on the control stream is read.
use Rattle.std.proofs.Common.{◌≡◌, ℕ, ◌%◌, ◌^◌, ◌<◌, ◌≤◌, ◌==◌, Bool, true, false, not, cond, ltb, List, [], ◌∷◌, ◌++◌, length, Option, Some, None, Result, Ok, Err, refl, sym, ap, subst, ◌∙◌, arith, lit<}
use Rattle.std.proofs.lemmas.Bool.{le-ltb, ltb-false}
use Rattle.std.proofs.lemmas.List.{append-nil}
use Rattle.wtp_core.specs.Varint.{shortest}
use Rattle.wtp_core.proofs.LeastLemmas.{at_most_8}
use Rattle.wtp_core.proofs.ShortLemmas.{shortest-encodes}
use Rattle.wtp_wire.specs.Content.{SettingsOf}
use Rattle.wtp_wire.specs.Settings.{settings_wire}
use Rattle.wtp_wire.specs.Wire.{wire}
use Rattle.wtp_frames.specs.declared.endpoint.Endpoint.{Endpoint}
use Rattle.wtp_frames.specs.declared.endpoint.Side.{Side}
use Rattle.wtp_frames.specs.declared.endpoint.Side.TheVariants.{Client, Server}
use Rattle.wtp_frames.specs.declared.fault.Fault.{Fault}
use Rattle.wtp_frames.specs.declared.frame_type.FrameType.TheVariants as kind
use Rattle.wtp_frames.specs.declared.reader.Place.{Place}
use Rattle.wtp_frames.specs.declared.reader.Place.TheVariants.{AfterSettings}
use Rattle.wtp_frames.specs.declared.reader.Reader.{Reader}
use Rattle.wtp_frames.specs.Grammar.{Frame, written, IsFrame}
use Rattle.wtp_frames.specs.Item.{Item, Whole}
use Rattle.wtp_frames.specs.Rules.{is_request, not_above, goes_away, with_number}
use Rattle.wtp_frames.specs.Run.{run, preceded}
use Rattle.wtp_frames.specs.Start.{control_reader, between}
use Rattle.wtp_frames.proofs.GrammarLemmas.{encoded_number, number_gives}
use Rattle.wtp_frames.proofs.WrittenLemmas.{whole_written}
use Rattle.wtp_sending.specs.declared.control.ControlSending.{ControlSending}
use Rattle.wtp_sending.specs.declared.error.SendError.{SendError}
use Rattle.wtp_sending.specs.declared.error.SendError.TheVariants as error
use Rattle.wtp_sending.specs.Control.{after_settings, goaway_bytes, is_named, rises, after_goaway, IsControlAt, IsControlRead}
use Rattle.wtp_sending.proofs.ReadLemmas.{frame_of, frame_is}
use Rattle.wtp_sending.proofs.SentLemmas.{ok_then, ok_else}

settings_written : (payload : List ℕ) → wire (SettingsOf payload) ≡ written (frame_of 4 payload)
settings_written payload = ap (λ (l : List ℕ). shortest 4 ++ (shortest (length payload) ++ l)) (append-nil payload)

settings_read : (e : Endpoint) (payload more : List ℕ) → length payload ≤ 4096 → run (control_reader e) (wire (SettingsOf payload) ++ more) ≡ preceded (Whole kind.Settings payload ∷ []) (run (between e 0 (AfterSettings None None) false 0) more)
settings_read e payload more l =
    ap (λ (x : List ℕ). run (control_reader e) (x ++ more)) (settings_written payload)
    ∙ whole_written (control_reader e) 4 (frame_of 4 payload) more (AfterSettings None None) (record { intact = refl; none = refl }) (frame_is 4 payload (lit< tt) (omega arith)) (rw (le-ltb 4096 (length payload) l) refl) refl

requested : (side : Side) (n : ℕ) → is_named side n ≡ true → is_request side n ≡ Ok n
requested Client n h = rw h refl
requested Server n h = refl

falls : (goaway push : Option ℕ) (n : ℕ) → rises goaway n ≡ false → not_above goaway n push ≡ Ok (AfterSettings (Some n) push)
falls None push n h = refl
falls (Some last) push n h = rw h refl

goaway_read : (e : Endpoint) (goaway : Option ℕ) (b : Bool) (i n : ℕ) (more : List ℕ) → n < 2 ^ 62 → is_named e.side n ≡ true → rises goaway n ≡ false → run (between e 0 (AfterSettings goaway None) b i) (goaway_bytes n ++ more) ≡ preceded (Whole kind.GoAway (shortest n) ∷ []) (run (between e 0 (AfterSettings (Some n) None) false 0) more)
goaway_read e goaway b i n more fits named low =
    whole_written (between e 0 (AfterSettings goaway None) b i) 7 (frame_of 7 (shortest n)) more (AfterSettings (Some n) None) (record { intact = refl; none = refl }) (frame_is 7 (shortest n) (lit< tt) (omega (arith, at_most_8 n))) (number_gives (length (shortest n)) (at_most_8 n))
    (ap (λ (o : Option ℕ). with_number e.side goaway None kind.GoAway o) (encoded_number n (shortest n) (shortest-encodes n fits))
    ∙ ap (λ (x : Result ℕ Fault). goes_away goaway None x) (requested e.side n named)
    ∙ falls goaway None n low)

-- ---- the calls

abbrev ok_control : ControlSending → Result ControlSending SendError
ok_control c = Ok c

control_is : (x y : ControlSending) → ok_control x ≡ Ok y → x ≡ y
control_is x y h = cc

settled_at : (e : Endpoint) (goaway : Option ℕ) (new : ControlSending) (r : Reader) → new.settled ≡ true → new.goaway ≡ goaway → r ≡ between e 0 (AfterSettings goaway None) false 0 → IsControlAt e new.settled new.goaway r
settled_at e goaway new r s g is = subst (λ (b : Bool). IsControlAt e b new.goaway r) (sym s) (subst (λ (o : Option ℕ). IsControlAt e true o r) (sym g) (false, 0, is))

pub settings_sent : (e : Endpoint) (old new : ControlSending) (settings : List (ℕ × ℕ)) (r : Reader) → IsControlAt e old.settled old.goaway r → after_settings old settings ≡ Ok new → IsControlRead e (wire (SettingsOf (settings_wire settings))) (Whole kind.Settings (settings_wire settings)) new r
settings_sent e old new settings r at h =
    let a = ok_else old.settled (cond (ltb 4096 (length (settings_wire settings))) (Err error.TooLarge) (ok_control (record old { settled = true }))) error.Unexpected new h in
    let b = ok_else (ltb 4096 (length (settings_wire settings))) (ok_control (record old { settled = true })) error.TooLarge new (a.1) in
    let is = control_is (record old { settled = true }) new (b.1) in
    let start : IsControlAt e false old.goaway r = subst (λ (x : Bool). IsControlAt e x old.goaway r) (a.0) at in
    record {
      next = between e 0 (AfterSettings None None) false 0;
      gives = λ more. ap (λ (x : Reader). run x (wire (SettingsOf (settings_wire settings)) ++ more)) (start.0) ∙ settings_read e (settings_wire settings) more (ltb-false 4096 (length (settings_wire settings)) (b.0));
      at = settled_at e None new (between e 0 (AfterSettings None None) false 0) (ap (λ (c : ControlSending). c.settled) (sym is)) (ap (λ (c : ControlSending). c.goaway) (sym is) ∙ start.1) refl;
    }

not_false : (b : Bool) → not b ≡ false → b ≡ true
not_false true h = refl
not_false false h = absurd cc

pub goaway_sent : (e : Endpoint) (old new : ControlSending) (id : ℕ) (r : Reader) → e.side ≡ old.to → id < 2 ^ 62 → IsControlAt e old.settled old.goaway r → after_goaway old id ≡ Ok new → IsControlRead e (goaway_bytes id) (Whole kind.GoAway (shortest id)) new r
goaway_sent e old new id r side fits at h =
    let a = ok_else (not old.settled) (cond (not (is_named old.to id)) (Err error.InvalidId) (cond (rises old.goaway id) (Err error.IdRises) (ok_control (record old { goaway = Some id })))) error.Unexpected new h in
    let b = ok_else (not (is_named old.to id)) (cond (rises old.goaway id) (Err error.IdRises) (ok_control (record old { goaway = Some id }))) error.InvalidId new (a.1) in
    let d = ok_else (rises old.goaway id) (ok_control (record old { goaway = Some id })) error.IdRises new (b.1) in
    let is = control_is (record old { goaway = Some id }) new (d.1) in
    let settled = not_false old.settled (a.0) in
    let named : is_named e.side id ≡ true = ap (λ (s : Side). is_named s id) side ∙ not_false (is_named old.to id) (b.0) in
    let start : IsControlAt e true old.goaway r = subst (λ (x : Bool). IsControlAt e x old.goaway r) settled at in
    record {
      next = between e 0 (AfterSettings (Some id) None) false 0;
      gives = λ more. ap (λ (x : Reader). run x (goaway_bytes id ++ more)) (start.2) ∙ goaway_read e old.goaway (start.0) (start.1) id more fits named (d.0);
      at = settled_at e (Some id) new (between e 0 (AfterSettings (Some id) None) false 0) (ap (λ (c : ControlSending). c.settled) (sym is) ∙ settled) (ap (λ (c : ControlSending). c.goaway) (sym is)) refl;
    }
