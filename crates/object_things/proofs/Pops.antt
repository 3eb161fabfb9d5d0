-- Bios that leave a list.
use Rattle.std.proofs.Common.{◌≡◌, List, ◌∷◌, subst}
use Rattle.std.proofs.lemmas.List.Elements.{All-head, All-rest}
use Rattle.bio_records.specs.declared.bio.Pad.{Pad}
use Rattle.bio_records.specs.Items.{Item}
use Rattle.task_steps.specs.Stage.{Stage, IsServed, AreServed}

pub first_served : (stage : Stage) (bio : Item Pad) (rest all : List (Item Pad)) → all ≡ bio ∷ rest → AreServed stage all → IsServed stage bio
first_served stage bio rest all e are = All-head (IsServed stage) bio rest (subst (AreServed stage) e are)

pub rest_served : (stage : Stage) (bio : Item Pad) (rest all : List (Item Pad)) → all ≡ bio ∷ rest → AreServed stage all → AreServed stage rest
rest_served stage bio rest all e are = All-rest (IsServed stage) bio rest all e are
