use Rattle.calculus.proofs.Buckets.{bucket_passes, bucket_rises, bucket_starts}
use Rattle.calculus.proofs.token_buckets.Goals as goal

pub returns : goal.returns
returns c = record { starts = bucket_starts; rises = bucket_rises; passes = bucket_passes }
