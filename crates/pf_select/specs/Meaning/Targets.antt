-- What is selected, target by target.
use Rattle.std.specs.Prelude.{ℕ, List}
use Rattle.pf_ints.specs.declared.target.Target.{Target}
use Rattle.pf_ints.specs.declared.target.Target.TheVariants.{Neon as OnNeon, Avx2, Hvx}
use Rattle.pf_values.specs.Meaning.Kernels.{Source}
use Rattle.pf_isa.specs.Meaning.Headline.{Headline}
use Rattle.pf_neon.specs.Meaning.Neon.{Neon, table, IsNeonInstruction}
use Rattle.pf_select.specs.Meaning.MinOfTaps.{IsMinOfTaps}
use Rattle.pf_select.specs.Meaning.Selected.{IsSelected}

-- a text is selected on this target for what a kernel says
abbrev pub IsBuilt : Target → Source → Type 0
IsBuilt OnNeon s = (first second : ℕ) × IsMinOfTaps s first second
IsBuilt Avx2 s = ⊥
IsBuilt Hvx s = ⊥

-- the text keeps the headline's promise on this target
abbrev pub HeadlineOn : Target → Source → List ℕ → Type 0
HeadlineOn OnNeon s text = Headline Neon table IsNeonInstruction s text
HeadlineOn Avx2 s text = ⊥
HeadlineOn Hvx s text = ⊥

-- the text may be written on this target for what a kernel says
abbrev pub IsSelectedOn : Target → Source → List ℕ → Type 0
IsSelectedOn OnNeon s text = IsSelected s text
IsSelectedOn Avx2 s text = ⊥
IsSelectedOn Hvx s text = ⊥
