use Rattle.sender.specs.Given.{image_of}
use Rattle.sender.proofs.SendLaws.{lengths-or-size}
use Rattle.sender.proofs.send.Image.geometry.Goals as goal

pub returns : goal.returns
returns c = lengths-or-size (image_of c.args.self.now) c.new.result c.new.ensures
