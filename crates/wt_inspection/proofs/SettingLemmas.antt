-- Settings one by one, and the first fault of a payload.
use Rattle.std.proofs.Common.{◌≡◌, ℕ, List, [], ◌∷◌, ◌++◌, Some, None, Result, Ok, Err, refl}
use Rattle.wtp_core.specs.declared.error.ErrorCode.{ErrorCode}
use Rattle.wtp_wire.specs.Settings.{settings_in}
use Rattle.wt_inspection.specs.Recording.{Then, StopsWith, AfterSettings, HasFault}
use Rattle.wt_inspection_model.specs.declared.item.settings.SettingLine.{SettingLine}
use Rattle.wtp_wire.specs.Settings.{pair_at}
use Rattle.wt_inspection.specs.SettingLines.{StartsSettings}

pub settings_with : (lines : List SettingLine) (bytes behind rest : List ℕ) (line : SettingLine) → StartsSettings bytes lines behind → pair_at behind ≡ Some ((line.id, line.value), rest) → StartsSettings bytes (lines ++ line ∷ []) rest
settings_with [] bytes behind rest line are one = (rest, rw are one, refl)
settings_with (first ∷ lines) bytes behind rest line (next, e, are) one =
    (next, e, settings_with lines next behind rest line are one)

-- ---- the first fault

go_on : {A : Type 0} (place : ℕ) (r : Result A ErrorCode) (on : Then) → HasFault r None → AfterSettings place r on on
go_on place (Ok m) on h = refl
go_on place (Err c) on h = absurd (cc h)

pub settings_go_on : (place : ℕ) (bytes : List ℕ) (on : Then) → HasFault (settings_in bytes) None → AfterSettings place (settings_in bytes) on on
settings_go_on place bytes on h = go_on place (settings_in bytes) on h

stop : {A : Type 0} (place : ℕ) (r : Result A ErrorCode) (on after : Then) (c : ErrorCode) → HasFault r (Some c) → StopsWith place c after → AfterSettings place r on after
stop place (Ok m) on after c h s = absurd (cc h)
stop place (Err d) on after c h s =
    let same : d ≡ c = cc h in
    rw same s

pub settings_stop : (place : ℕ) (bytes : List ℕ) (on after : Then) (c : ErrorCode) → HasFault (settings_in bytes) (Some c) → StopsWith place c after → AfterSettings place (settings_in bytes) on after
settings_stop place bytes on after c h s = stop place (settings_in bytes) on after c h s

pub settings_good : (bytes : List ℕ) (m : List (ℕ × ℕ)) → settings_in bytes ≡ Ok m → HasFault (settings_in bytes) None
settings_good bytes m e = rw e refl

pub settings_bad : (bytes : List ℕ) (c : ErrorCode) → settings_in bytes ≡ Err c → HasFault (settings_in bytes) (Some c)
settings_bad bytes c e = rw e refl
