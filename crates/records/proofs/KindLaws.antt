-- There is no kind above 14. Assumes nothing.
use Prim.Native.Nat.{ℕ, ◌≤◌}
use mathlib.Core.Path.{◌≡◌}
use mathlib.Core.List.{List}
use lib.ListN.{get_or-eq_default}
use Rattle.std.specs.Prelude.{None}
use Rattle.records.specs.EventRecord.{kind_read, kinds}
use Rattle.records.specs.Bytes.{byte_at}

pub no_kind : (s : List ℕ) → 15 ≤ byte_at s 2 → kind_read s ≡ None
unfolding kind_read
no_kind s h = get_or-eq_default (kinds s) None h
