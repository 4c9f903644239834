-- What the check of `put_each` does not find by itself.
use Rattle.std.proofs.Common.{ℕ, ◌+◌, ◌<◌, List, ◌++◌, ◌≡◌, length, ap, sym, ◌∙◌, ⊎_elim, arith}
use Rattle.text.specs.Text.{most}
use Rattle.text.proofs.WriteLaws.{none_wrote}
use Rattle.level_control.specs.Answer.{Outcome}
use Rattle.std.specs.declared.iter.Zip.{Zip}
use Rattle.std.specs.declared.ops.RangeFrom.{RangeFrom}
use Rattle.std.specs.declared.slice.ChunksExact.{ChunksExact}
use Rattle.text.specs.Line.{line_of}
use Rattle.sheet.specs.Lines.{outcome_line, text_of}
use Rattle.sheet.proofs.SheetLaws.{rest, counted, none_left, turn_lines, turn_next, turn_wrote}
use Rattle.sheet.proofs.lines.put_each.Goals as goal

pub loop-index-preserved : goal.loop-index-preserved
loop-index-preserved c =
    let l = c.loop-index in
    let was = l.invariant in
    let start = l.index-iterator.a.start in
    let index = c.in-Some.ensures.steps.0.0 in
    let step = c.in-Some.ensures.steps.1 in
    let first = c.in-Some.record.now in
    let others = c.next.new.self.b.rest.now in
    let twenty = step.1.1 ∙ was.size in
    let fewer = counted l.index-iterator.b.rest.now first others step.1.0 twenty in
    let fits : length l.out < most = omega arith in
    let given = c.record_event-answer.ensures in
    let line = c.write.new.self in
    let shows : ℕ → ℕ → List ℕ =
    λ at number. line_of at number c.record_event-answer.new.state.current_level c.record_event-answer.new.state.remaining_time c.record_event-answer.new.actions in
    let next : c.next.new.self.a.start ≡ start + 1 = c.in-Some.ensures.steps.0.1 ∙ ap (λ (n : ℕ). n + 1) index in
    let more = rest (start + 1) c.record_event-answer.new.state others in
    let e =
    turn_lines start l.state l.index-iterator.b.rest.now first others step.1.0 twenty
    ∙ ap (λ (o : Outcome). outcome_line start o ++ rest (start + 1) o.state others) (sym given)
    ∙ ap (λ (x : List ℕ). x ++ more) (sym (c.write.ensures ∙ ap (λ (n : ℕ). shows n c.record_number.result) index ∙ ap (λ (n : ℕ). shows start n) c.record_number.ensures)) in
    let placed = c.put-at.ensures.out_after in
    record {
      size = step.0 ∙ was.size;
      counted = omega arith;
      bound = omega arith;
      position = omega arith;
      next = rw next (turn_next line more l.out l.at placed ∙ rw e at was.next);
      wrote = λ room new r w.
          was.wrote room new r (rw e (turn_wrote line more l.out l.at placed (omega arith) (record { fits = omega (arith, rw e at was.next, room.fits, fits) }) (rw next at w)));
    }

pub loop-index-init : goal.loop-index-init
unfolding text_of
loop-index-init c =
    let chunks = c.chunks_exact.ensures in
    let zips = c.zip-index-items.ensures in
    let gives = c.into_iter-index-iterator.ensures.into_iter_gives in
    let second : c.into_iter-index-iterator.result.b ≡ c.chunks_exact.result = ap (λ (z : Zip (RangeFrom ℕ) (ChunksExact ℕ)). z.b) gives ∙ zips.second in
    let first : c.into_iter-index-iterator.result.a.start ≡ 1 = ap (λ (z : Zip (RangeFrom ℕ) (ChunksExact ℕ)). z.a.start) gives ∙ ap (λ (r : RangeFrom ℕ). r.start) zips.first in
    let whole : c.into_iter-index-iterator.result.b.rest.now ≡ c.args.events.now = ap (λ (b : ChunksExact ℕ). b.rest.now) second ∙ chunks.rest in
    record {
      size = ap (λ (b : ChunksExact ℕ). b.size) second ∙ chunks.size;
      counted = rw (first, whole) (omega arith);
      bound = rw whole (omega arith);
      position = omega arith;
      next = rw (first, whole) (omega arith);
      wrote = λ room new r w. rw (first, whole) at w;
    }

-- the records ended, and not the numbers
pub returns-clause-wrote : goal.returns-clause-wrote
returns-clause-wrote c = λ room.
    let l = c.loop-index in
    let ends = c.in-None.ensures.steps in
    let few : length l.index-iterator.b.rest.now < 20 = ⊎_elim (λ h. absurd (omega (arith, h.1.0))) (λ h. omega (arith, h.1.1.0, l.invariant.size)) ends in
    let none = none_left l.index-iterator.a.start l.state l.index-iterator.b.rest.now few in
    l.invariant.wrote room _ _ (rw none (none_wrote (omega arith)))

pub returns-clause-value : goal.returns-clause-value
returns-clause-value c =
    let l = c.loop-index in
    let ends = c.in-None.ensures.steps in
    let few : length l.index-iterator.b.rest.now < 20 = ⊎_elim (λ h. absurd (omega (arith, h.1.0))) (λ h. omega (arith, h.1.1.0, l.invariant.size)) ends in
    let none = none_left l.index-iterator.a.start l.state l.index-iterator.b.rest.now few in
    omega (arith, rw none at l.invariant.next)
