use Rattle.outside.proofs.Listing.{finds_file}
use Rattle.outside.proofs.files.Files.find.Goals as goal

pub returns-clause-file : goal.returns-clause-file
returns-clause-file c = finds_file c.args.self.now.files c.args.name.now c.place_of.result c.place_of.ensures
