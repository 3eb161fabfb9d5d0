use Rattle.std.proofs.Common.{◌≡◌, Option}
use Rattle.std.specs.Vec.Iter.{into_iter_items}
use Rattle.decl_text.specs.Known.{nothing_declared}
use Rattle.decl_text.specs.Read.{AreDeclarations}
use Rattle.decl_text.specs.Accepting.{checks_for}
use Rattle.decl_text.specs.Reading.{known_of_items, refusal_of_items}
use Rattle.decl_text.specs.declared.reason.Refusal.{Refusal}
use Rattle.stack_check.proofs.accepting.drafted.Given as goal

abbrev pub invariant-loop-next : goal.invariant-loop-next
invariant-loop-next l = record {
  can : (goal.iterator-loop-next).can_next l.next-iterator;
  finite : (goal.iterator-loop-next).is_finite l.next-iterator;
  declarations : AreDeclarations (into_iter_items l.next-iterator);
  refusal :
      (fault : Option Refusal)
      → refusal_of_items (checks_for l.fn.loose) l.draft (into_iter_items l.next-iterator) fault ≡ refusal_of_items (checks_for l.fn.loose) nothing_declared l.fn.items.items fault;
  known : known_of_items l.draft (into_iter_items l.next-iterator) ≡ known_of_items nothing_declared l.fn.items.items;
}
