-- What a write of a stack needs, as counts.
use Rattle.std.specs.Prelude.{◌≡◌, ◌+◌, ℕ}
use Rattle.stack_base.specs.declared.stack.Stack.{Stack}
use Rattle.stack_base.specs.Tree.{tree}
use Rattle.layout_model.specs.declared.write.Write.{Write}
use Rattle.layout_model.specs.declared.counts.Needs.{Needs}
use Rattle.layout_model.specs.Need.{needed, fragments_in_run, vectors}

-- the elements that a write needs: its own bio, the vector of this bio where it has more segments than a bio keeps itself, and what its
-- run needs below
abbrev pub elements : Stack → Write → ℕ
elements stack write = 1 + vectors write.count + needed (tree stack write.dev.0) write.start write.count

-- all of them but vectors: its own bio, and the bios and records that its run needs below
abbrev pub nodes : Stack → Write → ℕ
nodes stack write = 1 + needed (tree stack write.dev.0) write.start write.count

-- the fragments in which a write comes to the disks
abbrev pub write_fragments : Stack → Write → ℕ
write_fragments stack write = fragments_in_run (tree stack write.dev.0) write.start write.count

pub record IsNeeds (stack : Stack) (write : Write) (needs : Needs) : Type 0 where
  pub elements : needs.elements ≡ elements stack write
  pub nodes : needs.nodes ≡ nodes stack write
  pub fragments : needs.fragments ≡ write_fragments stack write
