-- What the check of `read_settings` does not find by itself.
use Rattle.std.proofs.Common.{◌≡◌, ap, ◌∙◌, Ok, rules}
use Rattle.records.specs.SettingsRecord.{settings_read, settings_read_number}
use Rattle.records.proofs.LayoutLaws.{settings_number}
use Rattle.records.proofs.settings_record.read_settings.Goals as goal

pub returns-in_err-settings-clause-number : goal.returns-in_err-settings-clause-number
unfolding settings_read
returns-in_err-settings-clause-number c =
    let same : c.from_residual.result ≡ settings_read c.args.bytes.now = search rules in
    ap settings_read_number same ∙ settings_number c.args.bytes.now

pub returns-in_err-check-clause-number : goal.returns-in_err-check-clause-number
unfolding settings_read
returns-in_err-check-clause-number c =
    let same : c.from_residual-in_err-check.result ≡ settings_read c.args.bytes.now = search rules in
    ap settings_read_number same ∙ settings_number c.args.bytes.now

pub returns-clause-number : goal.returns-clause-number
unfolding settings_read
returns-clause-number c =
    let same : Ok c.in_ok-settings.settings ≡ settings_read c.args.bytes.now = search rules in
    ap settings_read_number same ∙ settings_number c.args.bytes.now
