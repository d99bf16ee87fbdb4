mod Endings
mod Same
mod FilesOnce
mod TextsOnce
mod Noted
mod Once
mod Sound
mod Summaries
