-- A whole text, by its declarations and the rest of it.
use Rattle.std.proofs.Common.{◌≡◌, ℕ, Bool, List, [], Ok, Err, drop, length, sym, ap, subst, ◌∙◌, arith}
use Rattle.layout_model.specs.Writes.{AreWritesOf}
use Rattle.decl_text.specs.Text.{lines}
use Rattle.decl_text.specs.Refusals.{known_after, refusal}
use Rattle.decl_text.specs.Read.{Read}
use Rattle.decl_text.specs.Reading.{ReadsDecl, declarations}
use Rattle.decl_text.specs.declared.accepted.Accepted.{Accepted}
use Rattle.decl_text.specs.declared.reason.ReadFault.{ReadFault}
use Rattle.decl_text.specs.declared.reason.ReadFault.TheVariants.{Refused, Memory}
use Rattle.stack_check.specs.Accept.{AcceptsBy}
use Rattle.work_text.specs.Work.{all_checks, kept_resizes, known_of, last_round, change_of}
use Rattle.work_text.specs.Reading.{ReadsWork, work_lines}
use Rattle.work_text.specs.Whole.{RestDecides, known_of_text, text_refusal_by, work_of}
use Rattle.work_text.proofs.WholeRefusals.{refused_first, rest_decides}
use Rattle.std.proofs.lemmas.List.{length-map}
use Rattle.layout_model.specs.Bound.{IsBound}
use Rattle.decl_text.specs.Known.{Declarations}
use Rattle.biostack_top.specs.declared.scene.Scene.{Scene}
use Rattle.biostack_top.specs.Scene.{IsSaidBy, ReadsScene, SaysBy}

pub accept_refuses : (loose : Bool) (text : List ℕ) (read : Read) (fault : ReadFault) → ReadsDecl text (Ok read) → AcceptsBy loose read (Err fault) → ReadsScene loose text (Err fault)
accept_refuses loose text read (Refused first) is refuses = refused_first loose text read first is.0 is.1 refuses
accept_refuses loose text read Memory is refuses = tt

decides : (loose : Bool) (text : List ℕ) (read : Read) (accepted : Accepted) → ReadsDecl text (Ok read) → AcceptsBy loose read (Ok accepted) → RestDecides loose text read accepted.stack accepted.scripts.items
decides loose text read accepted is accepts = rest_decides (record { short = is.0; is = is.1; none = accepts.0; means = accepts.1 })

pub rest_begins : (loose : Bool) (text : List ℕ) (read : Read) (accepted : Accepted) → ReadsDecl text (Ok read) → AcceptsBy loose read (Ok accepted) → declarations (work_lines text accepted) ≡ []
rest_begins loose text read accepted is accepts = ap (λ n. declarations (lines (drop n text))) accepts.3 ∙ (decides loose text read accepted is accepts).begins

same_refusal : (loose : Bool) (text : List ℕ) (read : Read) (accepted : Accepted) → ReadsDecl text (Ok read) → AcceptsBy loose read (Ok accepted)
    → text_refusal_by loose text ≡ refusal all_checks (known_of accepted.stack) accepted.line (work_lines text accepted)
same_refusal loose text read accepted is accepts =
    (decides loose text read accepted is accepts).refusals
    ∙ ap (λ n. refusal all_checks (known_of accepted.stack) n (lines (drop read.rest text))) (sym accepts.4)
    ∙ ap (λ n. refusal all_checks (known_of accepted.stack) accepted.line (lines (drop n text))) (sym accepts.3)

pub work_refuses : (loose : Bool) (text : List ℕ) (read : Read) (accepted : Accepted) (fault : ReadFault) → ReadsDecl text (Ok read) → AcceptsBy loose read (Ok accepted)
    → ReadsWork text accepted (Err fault) → ReadsScene loose text (Err fault)
work_refuses loose text read accepted (Refused first) is accepts refuses = same_refusal loose text read accepted is accepts ∙ refuses
work_refuses loose text read accepted Memory is accepts refuses = tt

pub says_all : (loose : Bool) (text : List ℕ) (read : Read) (scene : Scene) → ReadsDecl text (Ok read) → AcceptsBy loose read (Ok scene.accepted) → ReadsWork text scene.accepted (Ok scene.work)
    → AreWritesOf scene.accepted.stack scene.work.writes.items → scene.text.now ≡ text → IsSaidBy loose scene
says_all loose text read scene is accepts reads served same =
    let accepted = scene.accepted in
    let fine = same_refusal loose text read accepted is accepts ∙ reads.0 in
    let by = decides loose text read accepted is accepts in
    let work : known_after (known_of accepted.stack) (work_lines text accepted) ≡ work_of (known_of_text text) =
    ap (λ n. known_after (known_of accepted.stack) (lines (drop n text))) accepts.3 ∙ sym (by.work fine) in
    subst (λ t. SaysBy loose t accepted scene.work) (sym same)
    (record {
      fine = fine;
      stack = accepted.is_stack;
      means = by.means fine;
      rescuers = accepts.2;
      writes = reads.1.writes ∙ ap (λ (k : Declarations). k.writes) work;
      served = served;
      rounds = reads.1.rounds ∙ ap (λ (k : Declarations). k.rounds) work;
      resizes = reads.1.resizes ∙ ap (λ (k : Declarations). kept_resizes (last_round k.rounds) k.resizes) work;
      needs = subst (λ z. IsBound accepted.stack scene.work.writes.items z scene.work.bound)
          (omega (
            arith,
            ap last_round (reads.1.rounds ∙ ap (λ (k : Declarations). k.rounds) work),
            ap length (reads.1.resizes ∙ ap (λ (k : Declarations). kept_resizes (last_round k.rounds) k.resizes) work),
            length-map scene.work.resizes.items change_of,
          ))
          reads.1.bound;
      begins = rest_begins loose text read accepted is accepts;
      reads = reads;
    })
