-- The refusal of a text whose declarations were read: theirs, or else that of its rest.
use Rattle.std.proofs.Common.{◌≡◌, ℕ, Bool, ◌+◌, ◌≤◌, List, [], ◌∷◌, ◌++◌, length, drop, is_some, Option, None, Some, refl, sym, ◌∙◌, ap, subst, arith}
use Rattle.std.specs.Prelude.{if◌then◌else◌}
use Rattle.std.specs.Option.{option_or}
use Rattle.std.proofs.lemmas.Bool.{le-ltb}
use Rattle.fail_script.specs.Script.{Answers}
use Rattle.stack_base.specs.declared.ids.PoolId.{PoolId}
use Rattle.stack_base.specs.declared.stack.Stack.{Stack}
use Rattle.decl_text.specs.Text.{lines, words, most_bytes}
use Rattle.decl_text.specs.Items.{said}
use Rattle.decl_text.specs.Known.{Declarations, Declared, nothing_declared}
use Rattle.decl_text.specs.Refusals.{first_found, line_checks, refusal, refused, known_after}
use Rattle.decl_text.specs.Read.{Read}
use Rattle.decl_text.specs.Reading.{IsReadDecl, Formed, declarations, formed, formed_by, is_work_line, is_wrong, read_lines, refusal_of_items, right_lines, known_of_items}
use Rattle.decl_text.specs.Accepting.{MeansStack, checks_for}
use Rattle.decl_text.specs.declared.reason.Reason.TheVariants.{TooLong}
use Rattle.decl_text.specs.declared.reason.Reason.{Reason}
use Rattle.decl_text.specs.declared.reason.Refusal.{Refusal}
use Rattle.decl_text.specs.declared.item.Item.{Item}
use Rattle.std.proofs.lemmas.Option.{none-some}
use Rattle.work_text.specs.Work.{all_checks, checks_by, known_of}
use Rattle.work_text.specs.Whole.{text_refusal_by, known_of_text, work_of, RestDecides}
use Rattle.decl_text.proofs.Cuts.{rest, cut, more, none_pass, begins, none_before}
use Rattle.decl_text.proofs.Fronts.{IsFront, front_known, front_refused, no_fault, nothing_front}
use Rattle.work_text.proofs.Fronts.{refusal-append, known-append, front_alike, front_stays}
use Rattle.work_text.proofs.Rests.{IsPaired, with_work, Follow, rest_loose, rest_refused, rest_known}

-- the lines from the first write or `sync` line on
abbrev left : List (List ℕ) → List (List ℕ)
left all = rest is_work_line all

-- what is known behind the lines before that
abbrev known_before : List (List ℕ) → Declarations
known_before all = known_after nothing_declared (declarations all)

joined : (all : List (List ℕ)) → declarations all ++ left all ≡ all
joined all = cut is_work_line all

not_long : (loose : Bool) (text : List ℕ) → length text ≤ most_bytes → text_refusal_by loose text ≡ refusal (checks_by loose) nothing_declared 1 (lines text)
not_long loose text short = ap (λ b. if b then Some (refused 0 TooLong) else refusal (checks_by loose) nothing_declared 1 (lines text)) (le-ltb most_bytes (length text) short)

-- the items and the fault were read of these lines
items_refused : (loose : Bool) (text : List ℕ) (read : Read) → IsReadDecl text read
    → refusal (checks_by loose) nothing_declared 1 (declarations (lines text)) ≡ refusal_of_items (checks_for loose) nothing_declared read.items read.fault
items_refused loose text read is =
    front_alike (checks_for loose) nothing_declared 1 (declarations (lines text)) nothing_front (none_pass is_work_line (lines text))
    ∙ front_refused (checks_for loose) nothing_declared 1 (declarations (lines text)) nothing_front (none_pass is_work_line (lines text))
    ∙ ap (λ f. refusal_of_items (checks_for loose) nothing_declared f.items f.fault) (sym is.formed)

refused_in_parts : (loose : Bool) (text : List ℕ) (read : Read) → length text ≤ most_bytes → IsReadDecl text read
    → text_refusal_by loose text ≡ option_or (refusal_of_items (checks_for loose) nothing_declared read.items read.fault)
    (refusal (checks_by loose) (known_before (lines text)) (1 + length (declarations (lines text))) (left (lines text)))
refused_in_parts loose text read short is =
    not_long loose text short
    ∙ ap (refusal (checks_by loose) nothing_declared 1) (sym (joined (lines text)))
    ∙ refusal-append (checks_by loose) nothing_declared 1 (declarations (lines text)) (left (lines text))
    ∙ ap (λ r. option_or r (refusal (checks_by loose) (known_before (lines text)) (1 + length (declarations (lines text))) (left (lines text)))) (items_refused loose text read is)

pub refused_first : (loose : Bool) (text : List ℕ) (read : Read) (first : Refusal) → length text ≤ most_bytes → IsReadDecl text read
    → refusal_of_items (checks_for loose) nothing_declared read.items read.fault ≡ Some first → text_refusal_by loose text ≡ Some first
refused_first loose text read first short is here =
    refused_in_parts loose text read short is
    ∙ ap (λ r. option_or r (refusal (checks_by loose) (known_before (lines text)) (1 + length (declarations (lines text))) (left (lines text)))) here

-- accepted declarations, with the stack and the scripts that they mean
none_by : (f : Option Reason) (number : ℕ) (o : Option Item) (more : Formed) → (formed_by f number o more).fault ≡ None → (f ≡ None) × (more.fault ≡ None)
none_by None number None more none = (refl, none)
none_by None number (Some said) more none = (refl, none)
none_by (Some reason) number o more none = absurd (none-some (refused number reason) (sym none))

-- where no line is wrong by itself, all were read
none_wrong : (number : ℕ) (all : List (List ℕ)) → (formed number all).fault ≡ None → right_lines all ≡ all
unfolding formed
none_wrong number [] none = refl
none_wrong number (line ∷ all) none =
    let parts = none_by (first_found line_checks nothing_declared line) number (said (words line)) (formed (number + 1) all) none in
    more is_wrong line all (ap is_some parts.0) ∙ ap (λ ys. line ∷ ys) (none_wrong (number + 1) all parts.1)

pub record Accepted (loose : Bool) (text : List ℕ) (read : Read) (stack : Stack) (scripts : List (PoolId × Answers)) : Type 0 where
  pub short : length text ≤ most_bytes
  pub is : IsReadDecl text read
  pub none : refusal_of_items (checks_for loose) nothing_declared read.items read.fault ≡ None
  pub means : MeansStack (known_of_items nothing_declared read.items) stack scripts

module _ {loose : Bool} {text : List ℕ} {read : Read} {stack : Stack} {scripts : List (PoolId × Answers)} (a : Accepted loose text read stack scripts) where
  sound : read.fault ≡ None
  sound = no_fault (checks_for loose) nothing_declared read.items read.fault a.none

  right : (formed 1 (declarations (lines text))).fault ≡ None
  right = ap (λ f. f.fault) (sym a.is.formed) ∙ sound

  -- all of them were read
  all_read : read_lines text ≡ declarations (lines text)
  all_read = none_wrong 1 (declarations (lines text)) right

  left_is : lines (drop read.rest text) ≡ left (lines text)
  left_is = a.is.rest ∙ ap (λ front. drop (length front) (lines text)) all_read

  known_is : known_before (lines text) ≡ known_of_items nothing_declared read.items
  known_is =
      front_known nothing_declared 1 (declarations (lines text)) right
      ∙ ap (λ f. known_of_items nothing_declared f.items) (sym a.is.formed)

  none_before_work : refusal (checks_for loose) nothing_declared 1 (declarations (lines text)) ≡ None
  none_before_work =
      front_refused (checks_for loose) nothing_declared 1 (declarations (lines text)) nothing_front (none_pass is_work_line (lines text))
      ∙ ap (λ f. refusal_of_items (checks_for loose) nothing_declared f.items f.fault) (sym a.is.formed)
      ∙ a.none

  front : IsFront (known_before (lines text))
  front = front_stays (checks_for loose) nothing_declared 1 (declarations (lines text)) nothing_front (none_pass is_work_line (lines text)) none_before_work

  paired : IsPaired (known_before (lines text))
  paired = rw (front.rounds, front.writes) refl

  means_before : MeansStack (known_before (lines text)) stack scripts
  means_before = subst (λ known. MeansStack known stack scripts) (sym known_is) a.means

  seen_is : work_of (known_before (lines text)) ≡ known_of stack
  seen_is = rw (front.writes, front.rounds, front.syncs, front.resizes) (ap (λ (d : List Declared). record nothing_declared { devices = d }) (sym means_before.devices))

  follow : Follow (known_before (lines text)) (left (lines text))
  follow = λ first. begins is_work_line (lines text)

  in_left : text_refusal_by loose text ≡ refusal all_checks (known_before (lines text)) read.line (left (lines text))
  in_left =
      refused_in_parts loose text read a.short a.is
      ∙ ap (λ r. option_or r (refusal (checks_by loose) (known_before (lines text)) (1 + length (declarations (lines text))) (left (lines text)))) a.none
      ∙ ap (λ n. refusal (checks_by loose) (known_before (lines text)) n (left (lines text))) (omega (arith, a.is.line, ap length all_read))
      ∙ rest_loose loose (known_before (lines text)) read.line (left (lines text)) paired follow

  by_stack : text_refusal_by loose text ≡ refusal all_checks (known_of stack) read.line (left (lines text))
  by_stack =
      in_left
      ∙ rest_refused (known_before (lines text)) read.line (left (lines text)) paired follow
      ∙ ap (λ k. refusal all_checks k read.line (left (lines text))) seen_is

  -- where the rest is not refused, the text has its work and all else as before
  with_rest : text_refusal_by loose text ≡ None → known_of_text text ≡ with_work (known_before (lines text)) (known_after (known_of stack) (left (lines text)))
  with_rest none =
      ap (known_after nothing_declared) (sym (joined (lines text)))
      ∙ known-append nothing_declared (declarations (lines text)) (left (lines text))
      ∙ rest_known (known_before (lines text)) read.line (left (lines text)) paired follow (sym in_left ∙ none)
      ∙ ap (λ k. with_work (known_before (lines text)) (known_after k (left (lines text)))) seen_is

  means_with : (from : Declarations) → MeansStack (with_work (known_before (lines text)) from) stack scripts
  means_with from = record {
    devices = means_before.devices;
    bad = means_before.bad;
    fs_bios = means_before.fs_bios;
    fs_vecs = means_before.fs_vecs;
    scripts = means_before.scripts;
  }

  -- the rest has the devices of the stack, and declares nothing
  same_work : text_refusal_by loose text ≡ None → work_of (with_work (known_before (lines text)) (known_after (known_of stack) (left (lines text)))) ≡ known_after (known_of stack) (left (lines text))
  same_work none =
      ap (λ (d : List Declared). work_of (record (known_after (known_of stack) (left (lines text))) { devices = d })) (sym means_before.devices)
      ∙ sym (rest_known (known_of stack) read.line (left (lines text)) refl (λ first. begins is_work_line (lines text)) (sym by_stack ∙ none))

  pub rest_decides : RestDecides loose text read stack scripts
  rest_decides = record {
    begins = ap declarations left_is ∙ none_before is_work_line (left (lines text)) (begins is_work_line (lines text));
    refusals = by_stack ∙ ap (refusal all_checks (known_of stack) read.line) (sym left_is);
    means = λ none. subst (λ known. MeansStack known stack scripts) (sym (with_rest none)) (means_with (known_after (known_of stack) (left (lines text))));
    work = λ none. ap work_of (with_rest none) ∙ same_work none ∙ ap (known_after (known_of stack)) (sym left_is);
  }
