-- Fractions as the code holds them, and their order.
use Rattle.std.specs.declared.cmp.Ordering.{Ordering}
use Rattle.std.specs.declared.cmp.Ordering.TheVariants.{Less, Equal, Greater}
use Rattle.laws.specs.Fractions.{compared}
use Rattle.rules.specs.Plumb.{Fraction as Ratio}
use Rattle.plumb.specs.declared.fractions.Fraction.{Fraction}

-- the rules' fraction
abbrev pub ratio : Fraction → Ratio
ratio f = record { top = f.top; bottom = f.bottom }

-- by the products across
abbrev pub fraction_cmp : Fraction → Fraction → Ordering
fraction_cmp s t = compared s.top s.bottom t.top t.bottom Less Equal Greater
