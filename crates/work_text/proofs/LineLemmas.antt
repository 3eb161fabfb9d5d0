-- What the words of a line tell of it, and what becomes of it.
use Rattle.std.proofs.Common.{◌≡◌, List, [], ◌∷◌, ℕ, Option, Some, None, Result, Ok, Err, refl, ap, sym, ◌∙◌, subst}
use Rattle.std.specs.Option.{option_or}
use Rattle.decl_text.specs.Text.{words}
use Rattle.decl_text.specs.Items.{said}
use Rattle.decl_text.specs.Known.{Declarations, after_line, nothing_declared}
use Rattle.decl_text.specs.Stands.{stand_of}
use Rattle.decl_text.specs.declared.stand.Stand.{Stand}
use Rattle.decl_text.specs.declared.stand.Stand.TheVariants as stand
use Rattle.decl_text.specs.Refusals.{first_found, line_checks, line_reason, said_reason}
use Rattle.decl_text.specs.Lines.{LineSays, SaysBehind}
use Rattle.decl_text.specs.declared.reason.Reason.{Reason}
use Rattle.decl_text.specs.declared.item.Item.{Item}
use Rattle.decl_text.specs.declared.line.LineFault.{LineFault}
use Rattle.decl_text.specs.declared.line.LineFault.TheVariants.{Wrong, Memory}
use Rattle.work_text.specs.Lines.{AddsWork, HasSectors, ReadsLine, CanStandAt, IsToldWork, TellsIn, told_item}
use Rattle.work_text.specs.Work.{all_checks}
use Rattle.work_text.specs.declared.told.Told.{Told}
use Rattle.work_text.proofs.Rests.{IsPaired, step}
use Rattle.work_text.proofs.WorkLines.{Works}

-- a line that is wrong
told_fault : (known : Declarations) (line : List ℕ) (fault : LineFault) → SaysBehind known line (Err fault) → TellsIn known line (Err fault)
told_fault known line Memory says = tt
told_fault known line (Wrong r) says = says

pub told_wrong : (known : Declarations) (line bytes : List ℕ) (fault : LineFault) → line ≡ bytes → SaysBehind known line (Err fault) → TellsIn known bytes (Err fault)
told_wrong known line bytes fault same says = told_fault known bytes fault (subst (λ l. SaysBehind known l (Err fault)) same says)

pub told_some : (known : Declarations) (line bytes : List ℕ) (something : Item) (told : Told) → line ≡ bytes → SaysBehind known line (Ok (Some something)) → something ≡ told_item told → HasSectors told
    → TellsIn known bytes (Ok (Some told))
told_some known line bytes something told same says is some =
    let here : SaysBehind known bytes (Ok (Some something)) = subst (λ l. SaysBehind known l (Ok (Some something))) same says in
    (here.0, here.1 ∙ ap Some is, some)

pub told_none : (known : Declarations) (line bytes : List ℕ) → line ≡ bytes → SaysBehind known line (Ok None) → TellsIn known bytes (Ok None)
told_none known line bytes same says = subst (λ l. SaysBehind known l (Ok None)) same says

-- the reason why a line is refused, by what is found of the line and of what it says
reason_of : (known : Declarations) (line : List ℕ) (found : Option Reason) (something : Option Item) → first_found line_checks known line ≡ found → said (words line) ≡ something
    → line_reason all_checks known line ≡ option_or found (said_reason all_checks known something)
reason_of known line found something is says =
    ap (λ o. option_or o (said_reason all_checks known (said (words line)))) is ∙ ap (λ s. option_or found (said_reason all_checks known s)) says

pub read_wrong : (before : Declarations) (line : List ℕ) (behind : Declarations) (fault : LineFault) → TellsIn before line (Err fault) → ReadsLine before line behind (Err fault)
read_wrong before line behind Memory tells = tt
read_wrong before line behind (Wrong r) tells = reason_of before line (Some r) (said (words line)) tells refl

pub read_none : (before : Declarations) (line : List ℕ) → TellsIn before line (Ok None) → ReadsLine before line before (Ok tt)
read_none before line tells = (reason_of before line None None tells.0 tells.1, sym (ap (after_line before) tells.1))

pub read_some : (before : Declarations) (line : List ℕ) (behind : Declarations) (told : Told) (result : Result (Unit {0}) LineFault) → TellsIn before line (Ok (Some told)) → AddsWork before (told_item told) behind result
    → ReadsLine before line behind result
read_some before line behind told (Ok done) tells adds =
    (reason_of before line None (Some (told_item told)) tells.0 tells.1 ∙ adds.0, adds.1 ∙ sym (ap (after_line before) tells.1))
read_some before line behind told (Err Memory) tells adds = tt
read_some before line behind told (Err (Wrong r)) tells adds = reason_of before line None (Some (told_item told)) tells.0 tells.1 ∙ adds

-- something by which a line stands there
known_at : Stand → Declarations
known_at stand.Front = nothing_declared
known_at stand.BehindSync = record nothing_declared { syncs = 1 }
known_at stand.BehindWrite = record nothing_declared { writes = record { task = 0; dev = 0; start = 0; count = 1; tag = 0 } ∷ []; rounds = 0 ∷ [] }

stands_so : (s : Stand) → stand_of (known_at s) ≡ s
unfolding known_at
stands_so stand.Front = refl
stands_so stand.BehindSync = refl
stands_so stand.BehindWrite = refl

paired_so : (s : Stand) → IsPaired (known_at s)
unfolding known_at
paired_so stand.Front = refl
paired_so stand.BehindSync = refl
paired_so stand.BehindWrite = refl

-- what a line says that may stand there is of the work
pub says_work : (s : Stand) (line bytes : List ℕ) (something : Item) → line ≡ bytes → CanStandAt s bytes → LineSays s line (Ok (Some something)) → IsToldWork something
says_work s line bytes something same stands says =
    let here : SaysBehind (known_at s) bytes (Ok (Some something)) = subst (λ l. SaysBehind (known_at s) l (Ok (Some something))) same (says (known_at s) (stands_so s)) in
    subst Works here.1 (step (known_at s) bytes (paired_so s) (λ front. stands (sym (stands_so s) ∙ front)) here.0).works
