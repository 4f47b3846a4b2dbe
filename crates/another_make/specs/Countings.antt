-- The counting make: what it means. Its counter is no part of that.
use Rattle.cabinet.specs.Model.{Model}
use Rattle.ports.specs.Tables.{table_model}
use Rattle.another_make.specs.declared.counting.Counting.{Counting}

abbrev pub counting_model : Counting → Model
counting_model c = table_model c.table
