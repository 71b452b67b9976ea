-- What an encoder decided, without where its texts are.
use Rattle.wtp_dynamic_encoder.specs.declared.plan.Plan as code
use Rattle.wtp_dynamic_encoder.specs.declared.plan.Plan.TheVariants as plans
use Rattle.wtp_dynamic_encoder.specs.declared.plan.Order as order
use Rattle.wtp_dynamic_encoder.specs.declared.plan.Order.TheVariants as orders
use Rattle.wtp_dynamic.specs.Plans.{Plan, StaticField, TableField, StaticName, TableName, NewName}
use Rattle.wtp_dynamic.specs.Writing.{Order, Sets, InsertsNamed, InsertsLiteral, Duplicates}

abbrev pub plan_of : code.Plan → Plan
plan_of (plans.StaticField index) = StaticField index
plan_of (plans.TableField place) = TableField place
plan_of (plans.StaticName never index value) = StaticName never index value.now
plan_of (plans.TableName never place value) = TableName never place value.now
plan_of (plans.NewName never name value) = NewName never name.now value.now

abbrev pub order_of : order.Order → Order
order_of (orders.Sets capacity) = Sets capacity
order_of (orders.InsertsNamed is_static index value) = InsertsNamed is_static index value.now
order_of (orders.InsertsLiteral name value) = InsertsLiteral name.now value.now
order_of (orders.Duplicates index) = Duplicates index
