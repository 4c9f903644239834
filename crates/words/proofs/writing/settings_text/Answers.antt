use Rattle.words.proofs.WritingLaws.{settings_parts}
use Rattle.words.proofs.writing.settings_text.Goals as goal

pub returns-clause-text : goal.returns-clause-text
returns-clause-text c =
    let x = c.args.settings.now in
    rw (c.push_flags.ensures.text, c.push_times.ensures.text, c.push_levels.ensures.text, c.push_range.ensures.text, c.push_text.ensures.text, c.new-line.ensures, c.text.ensures) (settings_parts x)
