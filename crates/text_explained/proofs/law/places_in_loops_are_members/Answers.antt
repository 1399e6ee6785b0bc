use Rattle.text_explained.proofs.MemberLaws.{members}
use Rattle.text_explained.proofs.law.places_in_loops_are_members.Goals as goal

pub returns : goal.returns
returns c = members
