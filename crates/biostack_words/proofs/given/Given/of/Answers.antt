-- What the getters read, of the rows.
use Rattle.std.proofs.Common.{◌≡◌, ◌∙◌, Bool, true, false, codes, ℕ, List, Option, Some}
use Rattle.biostack_words.specs.Reading.{flag_text}
use Rattle.clap.specs.Matches.{found_of, one_text}
use Rattle.clap.proofs.WalkLemmas.{first_value-rows, one_text-rows}
use Rattle.biostack_words.proofs.given.Given.of.Goals as goal

flag_is : (has : Bool) (result : Bool) (one : Option (List ℕ)) → one ≡ Some (flag_text has) → (one ≡ Some (codes "true") → result ≡ true) → (one ≡ Some (codes "false") → result ≡ false)
    → result ≡ has
flag_is true result one is some other = some is
flag_is false result one is some other = other is

pub returns : goal.returns
returns c =
    let found = found_of c.args.matches.now in
    record {
      seed = c.get_str.ensures ∙ first_value-rows found _;
      workers = c.get_str-2.ensures ∙ first_value-rows found _;
      number = c.get_str-3.ensures ∙ first_value-rows found _;
      trace = λ has e. flag_is has c.get_flag.result (one_text found (codes "trace")) (one_text-rows found (codes "trace") ∙ e) c.get_flag.ensures.value c.get_flag.ensures.other;
      text = λ has e. flag_is has c.get_flag-2.result (one_text found (codes "text")) (one_text-rows found (codes "text") ∙ e) c.get_flag-2.ensures.value c.get_flag-2.ensures.other;
    }
