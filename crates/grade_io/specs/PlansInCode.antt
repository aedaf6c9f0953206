-- The code's plan as the definitions see it.
use Rattle.grade_io.specs.Plans.{Plan}
use Rattle.grade_io.specs.declared.plan.CallPlan.{CallPlan}

abbrev pub plan_of : CallPlan → Plan
plan_of p = record { fails = p.fails.items; number = p.number }
