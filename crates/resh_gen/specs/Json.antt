-- The JSON that filters and updates of generated commands are read from.
use Rattle.std.specs.Prelude.{ℕ, codes}
use Rattle.serde_json.specs.Data.{Data, number, unsigned, object, member, no_members}

abbrev pub whole : ℕ → Data
whole n = number (unsigned n)

-- `{"_id":ID,"x":X,"y":Y}`
abbrev pub filter_data : ℕ → ℕ → ℕ → Data
filter_data id x y =
    object (member (codes "_id") (whole id) (member (codes "x") (whole x) (member (codes "y") (whole y) no_members)))

-- `{"$inc":{"n":1}}`
abbrev pub sum_data : Data
sum_data = object (member (codes "$inc") (object (member (codes "n") (whole 1) no_members)) no_members)

-- `{"$set":{"y":Z}}`
abbrev pub put_data : ℕ → Data
put_data z = object (member (codes "$set") (object (member (codes "y") (whole z) no_members)) no_members)
