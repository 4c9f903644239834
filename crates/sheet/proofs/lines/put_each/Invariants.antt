-- What the loop of `put_each` keeps.
use Rattle.std.proofs.Common.{◌≡◌, ℕ, ◌+◌, ◌*◌, ◌/◌, ◌≤◌, ◌<◌, min, List, length}
use Rattle.text.specs.Text.{Room, Wrote, most}
use Rattle.sheet.specs.Lines.{text_of}
use Rattle.sheet.proofs.SheetLaws.{rest}
use Rattle.sheet.proofs.lines.put_each.Given as goal

-- the position past all lines stays, and where all have room, what is written of those left completes them
abbrev pub invariant-loop-index : goal.invariant-loop-index
invariant-loop-index l =
    let lines = text_of l.fn.state l.events in
    let bytes = l.index-iterator.b.rest.now in
    let more = rest l.index-iterator.a.start l.state bytes in
    record {
      size : l.index-iterator.b.size ≡ 20;
      counted : l.index-iterator.a.start + length bytes / 20 < most;
      bound : l.at + 189 * (length bytes / 20) ≤ 189 * (length l.events / 20);
      position : l.at ≤ most;
      next : min (l.at + length more) most ≡ min (length lines) most;
      wrote : Room l.initial.out 0 lines → (new : List ℕ) (r : ℕ) → Wrote l.out l.at more new r → Wrote l.initial.out 0 lines new r;
    }
