-- What the check of `write_settings` does not find by itself.
use Rattle.std.proofs.Common.{ap, ◌∙◌, rules}
use Rattle.records.specs.SettingsRecord.{settings_read}
use Rattle.records.proofs.WrittenLaws.{settings_written}
use Rattle.records.proofs.written.write_settings.Goals as goal

pub returns-clause-read : goal.returns-clause-read
returns-clause-read c = λ allowed. ap settings_read (search rules) ∙ settings_written c.args.settings (search rules) allowed
