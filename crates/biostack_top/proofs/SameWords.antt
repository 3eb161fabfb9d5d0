-- An event of one of two stacks that the same declarations mean is one of the other, and has the same line.
use Rattle.std.proofs.Common.{◌≡◌, Bool, true, false, List, [], ◌∷◌, ◌++◌, refl, sym, ap, ◌∙◌}
use Rattle.std.specs.Prelude.{codes, decimal, not, All}
use Rattle.std.specs.List.{join_with_byte}
use Rattle.std.proofs.lemmas.List.Elements.{All-weaker}
use Rattle.fail_script.specs.Script.{Answers}
use Rattle.stack_base.specs.declared.ids.DevId.{DevId}
use Rattle.stack_base.specs.declared.ids.PoolId.{PoolId}
use Rattle.stack_base.specs.declared.ids.PoolId.TheVariants.{FsBios, FsVecs, Bios, Records}
use Rattle.stack_base.specs.declared.stack.Kind.{Kind}
use Rattle.stack_base.specs.declared.stack.Kind.TheVariants.{Disk, Linear, Stripe, Zoned, Limit, Mirror}
use Rattle.stack_base.specs.declared.stack.Device.{Device}
use Rattle.stack_base.specs.declared.stack.Stack.{Stack}
use Rattle.stack_base.specs.Names.{name_of_device, pool_name}
use Rattle.decl_text.specs.Accepting.{MeansStack, what_of_kind}
use Rattle.decl_text.specs.Known as declared
use Rattle.decl_text.specs.Known.{Declared, Declarations}
use Rattle.decl_text.specs.declared.item.What.{What as Does}
use Rattle.run_machine.specs.declared.event.Event.{Event}
use Rattle.run_machine.specs.declared.event.TaskId.{TaskId}
use Rattle.run_machine.specs.declared.event.TaskId.TheVariants as task
use Rattle.run_machine.specs.declared.event.What.{What}
use Rattle.run_machine.specs.declared.event.What.TheVariants as what
use Rattle.run_machine.specs.Named.{HasDevice, HasPool, HasTask, HasWhat, IsEventOf, is_stacked_kind, is_any, is_disk_kind, is_mirror_kind}
use Rattle.run_machine.specs.StatusWords.{status_word}
use Rattle.trace_text.specs.Lines.{got_word, line_of_event, task_word, what_words}
use Rattle.biostack_top.proofs.SameStacks.{same_of}

disk_told : (kind : Kind) → is_disk_kind kind ≡ declared.declares_disk (what_of_kind kind)
disk_told (Disk sectors bad) = refl
disk_told Linear = refl
disk_told (Stripe chunk) = refl
disk_told (Zoned chunk) = refl
disk_told (Limit longest chunk) = refl
disk_told (Mirror records) = refl

mirror_told : (kind : Kind) → is_mirror_kind kind ≡ declared.declares_mirror (what_of_kind kind)
mirror_told (Disk sectors bad) = refl
mirror_told Linear = refl
mirror_told (Stripe chunk) = refl
mirror_told (Zoned chunk) = refl
mirror_told (Limit longest chunk) = refl
mirror_told (Mirror records) = refl

module _ (known : Declarations) (one other : Stack) (one_scripts other_scripts : List (PoolId × Answers)) (a : MeansStack known one one_scripts) (b : MeansStack known other other_scripts) where
  same_name : (dev : DevId) → name_of_device one dev.0 ≡ name_of_device other dev.0
  same_name dev = same_of known one other one_scripts other_scripts a b (λ (d : Device). d.name.bytes) (λ (d : Declared). d.name) [] (λ d. refl) dev.0

  same_pool_word : (pool : PoolId) → pool_name one pool ≡ pool_name other pool
  same_pool_word FsBios = refl
  same_pool_word FsVecs = refl
  same_pool_word (Bios dev) = ap (λ name. name ++ codes ".bios") (same_name dev)
  same_pool_word (Records dev) = ap (λ name. name ++ codes ".records") (same_name dev)

  same_task_word : (id : TaskId) → task_word one id ≡ task_word other id
  same_task_word (task.Writer number) = refl
  same_task_word (task.Rescuer dev) = ap (λ name. codes "r:" ++ name) (same_name dev)
  same_task_word (task.Completer disk) = ap (λ name. codes "c:" ++ name) (same_name disk)
  same_task_word task.Keeper = refl

  same_words : (does : What) → what_words one does ≡ what_words other does
  -- pools
  same_words (what.Take pool got) = λ k. codes "take" ∷ same_pool_word pool k ∷ got_word got ∷ []
  same_words (what.Try pool got) = λ k. codes "try" ∷ same_pool_word pool k ∷ got_word got ∷ []
  same_words (what.Give pool) = λ k. codes "give" ∷ same_pool_word pool k ∷ []
  -- lists of rescuers
  same_words (what.Punt dev moved) = λ k. codes "punt" ∷ same_name dev k ∷ decimal moved ∷ []
  same_words (what.Pop dev) = λ k. codes "pop" ∷ same_name dev k ∷ []
  -- disks
  same_words (what.Push disk at len leg) = λ k. codes "push" ∷ same_name disk k ∷ decimal at ∷ decimal len ∷ codes "leg" ∷ decimal leg ∷ []
  same_words (what.Complete disk index status) = λ k. codes "complete" ∷ same_name disk k ∷ decimal index ∷ status_word status ∷ []
  -- books
  same_words (what.Link writer how node) = refl
  same_words (what.Drop writer node status end) = refl
  -- the tally and reserves
  same_words (what.Done write status) = refl
  same_words (what.Resize pool min) = λ k. codes "resize" ∷ same_pool_word pool k ∷ decimal min ∷ []
  same_words (what.Round round) = refl

  pub same_line : (event : Event) → line_of_event one event ≡ line_of_event other event
  same_line event = λ k. join_with_byte 32 (codes "event" ∷ same_task_word event.task k ∷ same_words event.what k)

  -- the other stack has what the one has
  has_too : (suits : Kind → Bool) (told : Does → Bool) → ((kind : Kind) → suits kind ≡ told (what_of_kind kind)) → (dev : DevId) → HasDevice suits one dev → HasDevice suits other dev
  has_too suits told same dev has =
      sym (same_of known one other one_scripts other_scripts a b (λ (d : Device). suits d.kind) (λ (d : Declared). told d.what) false (λ d. same d.kind) dev.0) ∙ has

  any_too : (dev : DevId) → HasDevice is_any one dev → HasDevice is_any other dev
  any_too dev has = has_too is_any (λ does. true) (λ kind. refl) dev has

  disk_too : (dev : DevId) → HasDevice is_disk_kind one dev → HasDevice is_disk_kind other dev
  disk_too dev has = has_too is_disk_kind declared.declares_disk disk_told dev has

  pool_too : (pool : PoolId) → HasPool one pool → HasPool other pool
  pool_too FsBios has = tt
  pool_too FsVecs has = tt
  pool_too (Bios dev) has = has_too is_stacked_kind (λ does. not (declared.declares_disk does)) (λ kind. ap not (disk_told kind)) dev has
  pool_too (Records dev) has = has_too is_mirror_kind declared.declares_mirror mirror_told dev has

  task_too : (id : TaskId) → HasTask one id → HasTask other id
  task_too (task.Writer number) has = tt
  task_too (task.Rescuer dev) has = any_too dev has
  task_too (task.Completer disk) has = disk_too disk has
  task_too task.Keeper has = tt

  what_too : (does : What) → HasWhat one does → HasWhat other does
  -- pools
  what_too (what.Take pool got) has = pool_too pool has
  what_too (what.Try pool got) has = pool_too pool has
  what_too (what.Give pool) has = pool_too pool has
  -- lists of rescuers
  what_too (what.Punt dev moved) has = any_too dev has
  what_too (what.Pop dev) has = any_too dev has
  -- disks
  what_too (what.Push disk at len leg) has = disk_too disk has
  what_too (what.Complete disk index status) has = disk_too disk has
  -- books
  what_too (what.Link writer how node) has = tt
  what_too (what.Drop writer node status end) has = tt
  -- the tally and reserves
  what_too (what.Done write status) has = tt
  what_too (what.Resize pool min) has = pool_too pool has
  what_too (what.Round round) has = tt

  pub all_too : (events : List Event) → All (IsEventOf one) events → All (IsEventOf other) events
  all_too events all =
      All-weaker (IsEventOf one) (IsEventOf other) (λ event is. record { task = task_too event.task is.task; what = what_too event.what is.what }) events all
