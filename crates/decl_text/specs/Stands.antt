-- Where a line stands among the others, and what it may be about there.
use Rattle.std.specs.Prelude.{◌==◌, if◌then◌else◌, not, Bool, true, false, List, [], ◌∷◌, ℕ}
use Rattle.decl_text.specs.Items.{line_is}
use Rattle.decl_text.specs.Known.{Declarations, Written, present}
use Rattle.decl_text.specs.declared.command.Command.{Command}
use Rattle.decl_text.specs.declared.command.Command.TheVariants as command
use Rattle.decl_text.specs.declared.stand.Stand.{Stand}
use Rattle.decl_text.specs.declared.stand.Stand.TheVariants.{Front, BehindSync, BehindWrite}

-- before all writes and `sync` lines, or right behind a `sync` line but for `resize` lines, or behind a write of the present round
abbrev pub stand_by : List Written → ℕ → Stand
stand_by [] syncs = if syncs == 0 then Front else BehindSync
stand_by (write ∷ writes) syncs = BehindWrite

abbrev pub stand_of : Declarations → Stand
stand_of known = stand_by (present known) known.syncs

abbrev pub is_front : Stand → Bool
is_front Front = true
is_front BehindSync = false
is_front BehindWrite = false

abbrev pub is_behind_sync : Stand → Bool
is_behind_sync Front = false
is_behind_sync BehindSync = true
is_behind_sync BehindWrite = false

-- writes and `sync` lines may stand anywhere, a `resize` line right behind a `sync` line or another such line, and a declaration before
-- all of these
abbrev pub may_stand : Stand → Command → Bool
may_stand stand command.Write = true
may_stand stand command.Sync = true
may_stand stand command.Resize = is_behind_sync stand
may_stand stand _ = is_front stand

-- a line with these words may not stand there
abbrev pub misplaced : Stand → List (List ℕ) → Bool
misplaced stand line = line_is (λ command rest. not (may_stand stand command)) false line
