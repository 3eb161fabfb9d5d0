-- What a completer carries, without its boxes.
use Rattle.std.specs.Prelude.{◌≡◌, ℕ, Bool, true, false, Option, Some, Result, MatchResult}
use Rattle.stack_base.specs.declared.ids.DevId.{DevId}
use Rattle.stack_base.specs.declared.ids.PoolId.{PoolId}
use Rattle.stack_base.specs.declared.ids.Status.{Status}
use Rattle.bio_records.specs.declared.bio.Slip.{Slip}
use Rattle.bio_records.specs.Items.{item_of, IsAlone}
use Rattle.bio_books.specs.Books.{Holding, nothing_held}
use Rattle.bio_books.specs.Views.{closed_node_of, holding_of, slip_item, IsAlonePart}
use Rattle.task_steps.specs.declared.completer.Load.{Load}
use Rattle.task_steps.specs.declared.completer.Load.TheVariants as load
use Rattle.run_machine.specs.declared.event.Breach.TheVariants.{Spent}
use Rattle.run_machine.specs.declared.event.TaskId.TheVariants.{Completer}
use Rattle.run_machine.specs.declared.event.What.TheVariants.{Give}
use Rattle.run_machine.specs.Tasks.{Carried, Empty, Brings, Carries, Fails}
use Rattle.run_machine.specs.Kept.{holding_kept}
use Rattle.task_steps.specs.Views.{vec_item}
use Rattle.task_steps.specs.declared.step.Step.{Step}
use Rattle.task_steps.specs.declared.step.Step.TheVariants.{Stepped, Broken}
use Rattle.task_steps.specs.declared.objects.Unmade.{Unmade}
use Rattle.task_steps.specs.declared.objects.Unmade.TheVariants as unmade

abbrev pub carried_of : Load → Carried
carried_of load.Empty = Empty
carried_of (load.Brings bio status) = Brings (item_of bio) status
carried_of (load.Carries writer node) = Carries writer (closed_node_of node)
carried_of (load.Fails breach held) = Fails breach (holding_kept (holding_of held))

-- what came back of a call, with what else was carried; a completer hands no lists over, and opens no nodes
abbrev pub put_back : Holding → Unmade → Holding
put_back held unmade.Nothing = held
put_back held (unmade.Bio bio) = record held { bio = Some (item_of bio) }
put_back held (unmade.Vec vector) = record held { vector = Some (vec_item vector) }
put_back held (unmade.Slip slip) = record held { slip = Some (slip_item slip) }
put_back held (unmade.List bios) = held
put_back held (unmade.Ask ask) = held

-- whether anything is carried, or a completer has broken off
abbrev pub is_busy : Carried → Bool
is_busy Empty = false
is_busy carried = true

-- whether a bio is carried that its disk is done with
abbrev pub is_bringing : Carried → Bool
is_bringing (Brings bio status) = true
is_bringing carried = false

-- whether a closed node is carried
abbrev pub is_carrying : Carried → Bool
is_carrying (Carries writer closed) = true
is_carrying carried = false

-- a bio that is carried is in no list
abbrev pub IsLoadAlone : Load → Type 0
IsLoadAlone load.Empty = Unit {0}
IsLoadAlone (load.Brings bio status) = IsAlone bio
IsLoadAlone (load.Carries writer node) = IsAlonePart node.held.bio
IsLoadAlone (load.Fails breach held) = Unit {0}

-- what is left of a closed node of this write whose elements were all given back is carried
abbrev pub given_back : ℕ → Option ℕ → ℕ → Status → Carried
given_back writer parent write status = Carries writer (record { held = nothing_held; parent = parent; write = write; status = status })

-- what is held of a closed node that is carried
abbrev pub held_of : Carried → Holding
held_of (Carries writer closed) = closed.held
held_of carried = nothing_held

-- a closed node is carried that holds nothing any more
abbrev pub IsEmptyNode : Carried → Type 0
IsEmptyNode (Carries writer closed) = closed.held ≡ nothing_held
IsEmptyNode carried = ⊥

-- What comes of giving back a part that a closed node held no more: the event is told, and what is left is carried on. Or the part came back, and
-- the completer breaks off with it and what is left.
abbrev pub GaveBack : DevId → PoolId → Result (Unit {0}) Unmade → Carried → Carried → Step → Type 0
GaveBack disk pool given old new told = MatchResult given
    (λ done. (new ≡ old) × (told ≡ Stepped (record { task = Completer disk; what = Give pool })))
    (λ back. (new ≡ Fails Spent (holding_kept (put_back (held_of old) back))) × (told ≡ Broken Spent))
