-- The line of one more fragment is said behind those of the fragments before it.
use Rattle.std.proofs.Common.{arith}
use Rattle.std.proofs.lemmas.List.{take_all}
use Rattle.std.proofs.lemmas.List.Elements.{Contains-get_or}
use Rattle.layout_model.specs.declared.fragment.Fragment.{Fragment}
use Rattle.outside_io.proofs.SaysLemmas.{says_more, says_silence}
use Rattle.report_text.specs.LayoutText.{fragment_line, layout_text}
use Rattle.report_text.proofs.layout.fragment_lines.Goals as goal

-- what stands for a fragment where there is none
abbrev no_fragment : Fragment
no_fragment = record { write = 0; offset = 0; len = 0; disk = record { 0 = 0 }; at = 0 }

pub fragment_line-requires : goal.fragment_line-requires
fragment_line-requires g c = c.requires _ (Contains-get_or c.args.fragments.now c.fragments.fragment-index no_fragment c.fragments-test.true)

pub fragments-init : goal.fragments-init
fragments-init g c = says_silence g.K.Sink c.args.out.now c.args.pen.now

pub fragments-preserved : goal.fragments-preserved
fragments-preserved g c =
    says_more (fragment_line c.args.stack.now) c.args.fragments.now c.fragments.fragment-index no_fragment c.fragments-test.true
    c.fragments.invariant c.fragment_line.ensures

pub returns : goal.returns
unfolding layout_text
returns g c = rw (take_all c.fragments.fragment-index c.args.fragments.now (omega arith)) at c.fragments.invariant
